use mathlib.Core.Path.{◌≡◌, sym, ◌∙◌}
use Rattle.wire.proofs.Verdicts.{handed-on}
use Rattle.rnt_walker.proofs.Walks.{walked-read, walked-refused}
use Rattle.rnt_reader.specs.Sections.{section_read}
use borrow.Author.Rules.{rules}
use Rattle.rnt_reader.proofs.section_of.Goals as goal

pub section_at-requires : goal.section_at-requires
section_at-requires c =
    let pre = c.requires in
    pre _ c.in_ok-places.was

pub returns : goal.returns
unfolding section_read
returns c =
    λ v e. rw ((walked-read v _ _ (sym e ∙ c.in_ok-places.was)).0, c.section_at.ensures)

pub returns-in_err-places : goal.returns-in_err-places
unfolding section_read
returns-in_err-places c = λ v e. handed-on _ _ c.from_residual.ensures ∙ rw (walked-refused v _ _ (sym e ∙ c.in_err-places.was))
