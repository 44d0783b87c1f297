use Rattle.length_field.specs.Lengths.{length_bytes}
use Rattle.section_header.specs.Syntax.{header_bytes}
use Rattle.rct.specs.Syntax.{head_bytes}
use borrow.Author.Rules.{rules}
use Rattle.rct_maker.proofs.head_bytes.Goals as goal

pub returns : goal.returns
unfolding head_bytes header_bytes length_bytes
returns c = rw (c.header_bytes-front.ensures, c.to_be16-year.ensures)
