use mathlib.Core.Path.{◌≡◌, sym, ◌∙◌}
use Prim.Native.Nat.{◌-◌}
use native.Mathlib.Omega.{arith}
use Rattle.wire.specs.Verdict.{reached}
use Rattle.wire.proofs.Verdicts.{at-reached}
use Rattle.frame.specs.Syntax.{uncounted}
use Rattle.frame.specs.Reading.{declared}
use Rattle.frame.proofs.Opening.{met-indicated, opened-short, opened-other, opened-unindicated, opened-small, opened-cut, opened-long, fine-opened}
use borrow.Author.Rules.{rules}
use Rattle.frame_opening.proofs.open.Goals as goal

pub returns-then-s-least : goal.returns-then-s-least
unfolding reached
returns-then-s-least c =
    let least = c.least-least in
    let args = c.args in
    rw (c.refused.ensures, least.ensures, opened-short args.t args.demands args.s.now (omega arith))

pub returns-then-id-t : goal.returns-then-id-t
unfolding reached
returns-then-id-t c =
    let wide = c.wide in
    let args = c.args in
    let if2 = c.if-id-t in
    rw (c.refused-then-id-t.ensures, wide.ensures.0, c.wide-then-id-t.ensures.0, opened-other args.t args.demands args.s.now (omega arith) if2.true)

pub returns-then-unmet_by : goal.returns-then-unmet_by
unfolding reached
returns-then-unmet_by c =
    let args = c.args in
    let if2 = c.if-id-t in
    let unmet-by = c.unmet_by in
    let if3 = c.if-unmet_by in
    rw (c.refused-then-unmet_by.ensures, c.wide-then-unmet_by.ensures.0, opened-unindicated args.t args.demands args.s.now (omega arith) if2.false (sym unmet-by.ensures ∙ if3.true))

pub returns-then-total-least : goal.returns-then-total-least
unfolding reached
returns-then-total-least c =
    let total = c.total-total in
    let args = c.args in
    let if2 = c.if-id-t in
    let unmet-by = c.unmet_by in
    let if3 = c.if-unmet_by in
    let n : total.result - uncounted ≡ declared args.s.now = omega arith in
    rw (c.refused-then-total-least.ensures, n, opened-small args.t args.demands args.s.now (omega arith) if2.false (sym unmet-by.ensures ∙ if3.false) (omega arith))

pub returns-then-lent-total : goal.returns-then-lent-total
unfolding reached
returns-then-lent-total c =
    let total = c.total-total in
    let args = c.args in
    let if2 = c.if-id-t in
    let unmet-by = c.unmet_by in
    let if3 = c.if-unmet_by in
    let n : total.result - uncounted ≡ declared args.s.now = omega arith in
    rw (c.refused-then-lent-total.ensures, n, opened-cut args.t args.demands args.s.now (omega arith) if2.false (sym unmet-by.ensures ∙ if3.false) (omega arith) (omega arith))

pub returns-then-demands-length : goal.returns-then-demands-length
unfolding reached
returns-then-demands-length c =
    let total = c.total-total in
    let args = c.args in
    let if2 = c.if-id-t in
    let unmet-by = c.unmet_by in
    let if3 = c.if-unmet_by in
    let n : total.result - uncounted ≡ declared args.s.now = omega arith in
    rw (c.refused-then-demands-length.ensures, n, opened-long args.t args.demands args.s.now (omega arith) if2.false (sym unmet-by.ensures ∙ if3.false) (omega arith) (omega arith) (omega arith))

pub returns : goal.returns
returns c =
    let args = c.args in
    let unmet-by = c.unmet_by in
    let if3 = c.if-unmet_by in
    let if2 = c.if-id-t in
    let total = c.total-total in
    let met = met-indicated args.demands args.s.now (sym unmet-by.ensures ∙ if3.false) in
    at-reached _ _ _ (fine-opened args.t args.demands args.s.now (record { id_is = if2.false; indicated = met; large = omega arith; within = omega arith; limited = omega arith })) (sym total.ensures)
