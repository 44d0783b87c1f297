use mathlib.Core.Path.{◌≡◌, sym, ap, ◌∙◌}
use native.Mathlib.Omega.{arith}
use Rattle.length_field.specs.declared.LengthField.{LengthField}
use Rattle.length_field.proofs.Blocks.{last-cut, last-left}
use Rattle.rct_blocks.specs.Ends.{end_of}
use borrow.Author.Rules.{rules}
use Rattle.rct_blocks.proofs.check_loop.Goals as goal

pub returns-then-loop_end-start : goal.returns-then-loop_end-start
returns-then-loop_end-start c =
    let args = c.args in
    let limited = c.limited-loop_end in
    let e : limited.result ≡ end_of args.payload.now = limited.ensures in
    rw (← e) (sym (last-cut _ _ _ args.payload.now _ args.at c.if-loop_end-start.true))

pub bounds-payload-loop_at : goal.bounds-payload-loop_at
bounds-payload-loop_at c = omega (arith, c.limited-loop_end.ensures)

pub bounds-payload-loop_at-2 : goal.bounds-payload-loop_at-2
bounds-payload-loop_at-2 c = omega (arith, c.limited-loop_end.ensures)

pub returns : goal.returns
returns c =
    let args = c.args in
    let limited = c.limited-loop_end in
    let e : limited.result ≡ end_of args.payload.now = limited.ensures in
    let n = ap (λ (f : LengthField). f.length) c.of_bytes-field.ensures in
    c.check_last.ensures ∙ rw (n, ← e) (sym (last-left _ _ args.payload.now _ args.at c.if-loop_end-start.false _))
