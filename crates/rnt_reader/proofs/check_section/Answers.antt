use mathlib.Core.Path.{◌≡◌, sym, ◌∙◌}
use Rattle.rnt.proofs.Accepted.{checked-iff}
use Rattle.rnt_walker.proofs.Walks.{walked-read}
use borrow.Author.Rules.{rules}
use Rattle.rnt_reader.proofs.check_section.Goals as goal

pub section_of-requires : goal.section_of-requires
section_of-requires c =
    let args = c.args in
    λ p e. let g = walked-read _ _ _ (sym c.checked_places.ensures ∙ e) in (sym g.1, ((checked-iff args.s.now).0 g.0).plainly)

pub returns : goal.returns
returns c = c.section_of.ensures _ c.checked_places.ensures
