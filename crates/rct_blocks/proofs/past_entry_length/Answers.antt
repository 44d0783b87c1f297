use mathlib.Core.Path.{◌≡◌, refl, ap}
use native.Mathlib.Omega.{arith}
use Rattle.length_field.specs.declared.LengthField.{LengthField}
use Rattle.length_field.proofs.Blocks.{block-pass, block-cut, block-long}
use Rattle.wire.proofs.Verdicts.{at-reached, refused-reached}
use Rattle.rct_blocks.specs.Ends.{end_of}
use borrow.Author.Rules.{rules}
use Rattle.rct_blocks.proofs.past_entry_length.Goals as goal

pub returns-then-end-start : goal.returns-then-end-start
returns-then-end-start c =
    let args = c.args in
    let limited = c.limited-end in
    let e : limited.result ≡ end_of args.payload.now = limited.ensures in
    rw (← e) (refused-reached _ _ _ (block-cut _ _ _ _ args.payload.now _ args.at c.if-end-start.true))

pub bounds-payload-entry_at : goal.bounds-payload-entry_at
bounds-payload-entry_at c = omega (arith, c.limited-end.ensures)

pub bounds-payload-entry_at-2 : goal.bounds-payload-entry_at-2
bounds-payload-entry_at-2 c = omega (arith, c.limited-end.ensures)

pub overflow_add-next : goal.overflow_add-next
overflow_add-next c = omega (arith, ap (λ (f : LengthField). f.length) c.of_bytes-field.ensures)

pub returns-then-end-next : goal.returns-then-end-next
returns-then-end-next c =
    let args = c.args in
    let limited = c.limited-end in
    let e : limited.result ≡ end_of args.payload.now = limited.ensures in
    let n = ap (λ (f : LengthField). f.length) c.of_bytes-field.ensures in
    rw (n, ← e) (refused-reached _ _ _ (block-long _ _ _ _ args.payload.now _ args.at c.if-end-start.false (rw n at c.if-end-next.true)))

pub returns : goal.returns
returns c =
    let args = c.args in
    let limited = c.limited-end in
    let e : limited.result ≡ end_of args.payload.now = limited.ensures in
    let n = ap (λ (f : LengthField). f.length) c.of_bytes-field.ensures in
    rw (n, ← e) (at-reached _ _ _ (block-pass _ _ _ _ args.payload.now _ args.at (rw n at c.if-end-next.false)) refl)
