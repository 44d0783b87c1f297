use Rattle.flat_sections.specs.Sections.{header_of}
use borrow.Author.Rules.{rules}
use Rattle.flat_sections.proofs.FlatHeader.header.Goals as goal

pub returns : goal.returns
unfolding header_of
returns c = rw (← c.is_set.ensures, ← c.is_set-2.ensures, ← c.is_set-3.ensures) c.with_reserved.ensures
