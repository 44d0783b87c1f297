use Prim.Native.Nat.{◌+◌}
use mathlib.Core.Path.{◌≡◌, sym, ap, ◌∙◌}
use native.Mathlib.Omega.{arith}
use Rattle.length_field.specs.Lengths.{block_end}
use Rattle.wire.specs.Refusals.{provider_cut, provider_too_long}
use Rattle.length_field.specs.declared.LengthField.{LengthField}
use Rattle.length_field.proofs.Blocks.{block-passed, block-cut, block-left}
use Rattle.wire.proofs.Verdicts.{reached-at, reached-refused, handed-on}
use Rattle.rnt_heads.proofs.HeadLaws.{at-headed, refused-headed, head-stop, head-on}
use borrow.Author.Rules.{rules}
use Rattle.rnt_heads.proofs.head.past_provider_head.Goals as goal

pub returns-then-e-start : goal.returns-then-e-start
returns-then-e-start c =
    let args = c.args in
    refused-headed _ _ _ _ (head-stop args.s.now args.e args.p _ (block-cut _ _ _ _ args.s.now args.e args.p c.if-e-start.true))

pub overflow_add-end : goal.overflow_add-end
overflow_add-end c =
    let of-bytes = c.of_bytes-field in
    omega (arith, ap (λ (f : LengthField). f.length) of-bytes.ensures)

pub past_named-requires : goal.past_named-requires
past_named-requires c =
    let of-bytes = c.of_bytes-field in
    let args = c.args in
    let check-left = c.check_left in
    let n = ap (λ (f : LengthField). f.length) of-bytes.ensures in
    let v = block-left provider_cut provider_too_long args.s.now args.e args.p (omega arith) ∙ sym (rw n at check-left.ensures) ∙ c.in_ok-check_left.was in
    (omega (arith, n, block-passed provider_cut provider_too_long _ _ args.s.now args.e args.p v), omega arith)

pub returns : goal.returns
returns c =
    let of-bytes = c.of_bytes-field in
    let args = c.args in
    let check-left = c.check_left in
    let past-named = c.past_named in
    let n = ap (λ (f : LengthField). f.length) of-bytes.ensures in
    let v = block-left provider_cut provider_too_long args.s.now args.e args.p (omega arith) ∙ sym (rw n at check-left.ensures) ∙ c.in_ok-check_left.was in
    let q : block_end args.s.now args.p ≡ args.p + 2 + of-bytes.result.length = omega (arith, n) in
    let g = reached-at _ _ _ (sym past-named.ensures ∙ c.in_ok-first.was) in
    at-headed _ _ _ _ _ (head-on args.s.now args.e args.p _ v q ∙ g.0) g.1 q

pub returns-in_err-first : goal.returns-in_err-first
returns-in_err-first c =
    let of-bytes = c.of_bytes-field in
    let args = c.args in
    let check-left = c.check_left in
    let past-named = c.past_named in
    let n = ap (λ (f : LengthField). f.length) of-bytes.ensures in
    let v = block-left provider_cut provider_too_long args.s.now args.e args.p (omega arith) ∙ sym (rw n at check-left.ensures) ∙ c.in_ok-check_left.was in
    let q : block_end args.s.now args.p ≡ args.p + 2 + of-bytes.result.length = omega (arith, n) in
    handed-on _ _ c.from_residual-in_err-first.ensures ∙ refused-headed _ _ _ _ (head-on args.s.now args.e args.p _ v q ∙ reached-refused _ _ _ (sym past-named.ensures ∙ c.in_err-first.was))

pub returns-in_err-check_left : goal.returns-in_err-check_left
returns-in_err-check_left c =
    let of-bytes = c.of_bytes-field in
    let args = c.args in
    let check-left = c.check_left in
    let n = ap (λ (f : LengthField). f.length) of-bytes.ensures in
    handed-on _ _ c.from_residual.ensures ∙ refused-headed _ _ _ _ (head-stop args.s.now args.e args.p _ (block-left provider_cut provider_too_long args.s.now args.e args.p (omega arith) ∙ sym (rw n at check-left.ensures) ∙ c.in_err-check_left.was))
