use mathlib.Core.Path.{◌≡◌, sym, ◌∙◌}
use Rattle.rnt_walker.proofs.Walks.{walked-read}
use borrow.Author.Rules.{rules}
use Rattle.rnt_reader.proofs.read_section.Goals as goal

pub section_of-requires : goal.section_of-requires
section_of-requires c = λ p e. let g = walked-read _ _ _ (sym c.plain_places.ensures ∙ e) in (sym g.1, g.0)

pub returns : goal.returns
returns c = c.section_of.ensures _ c.plain_places.ensures
