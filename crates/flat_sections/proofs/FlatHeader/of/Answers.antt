use Rattle.flat_sections.specs.Sections.{header_flat}
use borrow.Author.Rules.{rules}
use Rattle.flat_sections.proofs.FlatHeader.of.Goals as goal

pub returns : goal.returns
unfolding header_flat
returns c = rw (c.flag.ensures.0, c.flag-2.ensures.0, c.flag-3.ensures.0)
