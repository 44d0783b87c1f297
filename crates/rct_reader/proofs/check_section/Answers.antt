use mathlib.Core.Path.{◌≡◌, sym, ap, ◌∙◌}
use Rattle.wire.proofs.Verdicts.{handed-on}
use Rattle.rct_walker.proofs.Loops.{loop-had, loop-not}
use Rattle.rct_reader.proofs.Wholes.{checked-loop-plain, fine-read, section-refused}
use Rattle.std.specs.Prelude.{Ok}
use borrow.Author.Rules.{rules}
use Rattle.rct_reader.proofs.check_section.Goals as goal

pub section_at-requires : goal.section_at-requires
section_at-requires c = checked-loop-plain _ _ (sym c.checked_loop.ensures ∙ c.in_ok-found.was)

pub returns : goal.returns
returns c =
    let g = loop-had _ _ _ _ _ (sym c.checked_loop.ensures ∙ c.in_ok-found.was) in
    ap Ok c.section_at.ensures ∙ sym (fine-read _ _ g.fine)

pub returns-in_err-found : goal.returns-in_err-found
returns-in_err-found c =
    handed-on _ _ c.from_residual.ensures ∙ sym (section-refused _ _ _ (loop-not _ _ _ (sym c.checked_loop.ensures ∙ c.in_err-found.was)))
