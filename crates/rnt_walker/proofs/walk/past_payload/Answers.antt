use Prim.Native.Nat.{◌-◌, ◌≤◌}
use mathlib.Core.Path.{◌≡◌, sym, ap, ◌∙◌}
use native.Mathlib.Omega.{arith}
use Rattle.length_field.specs.Lengths.{length_at, block_end}
use Rattle.length_field.specs.declared.LengthField.{LengthField}
use Rattle.frame.specs.Syntax.{crc_length}
use Rattle.frame.specs.Reading.{payload_end}
use Rattle.rnt.specs.Syntax.{common_place}
use Rattle.rnt.proofs.Accepted.{common-passed}
use Rattle.rnt_walker.proofs.Walks.{refused-walked, payload-stop, payload-on, common-said}
use borrow.Author.Rules.{rules}
use Rattle.wire.proofs.Verdicts.{handed-on}
use Rattle.rnt_walker.proofs.walk.past_payload.Goals as goal

pub bounds-s-common : goal.bounds-s-common
bounds-s-common c =
    let payload-end = c.payload_end-e in
    omega (arith, c.common_at-common.ensures, payload-end.ensures)

pub overflow_add-common : goal.overflow_add-common
overflow_add-common c =
    let payload-end = c.payload_end-e in
    omega (arith, c.common_at-common.ensures, payload-end.ensures)

pub bounds-s-common-2 : goal.bounds-s-common-2
bounds-s-common-2 c =
    let common-at = c.common_at-common in
    let payload-end = c.payload_end-e in
    omega (arith, common-at.ensures, payload-end.ensures)

pub overflow_add-start : goal.overflow_add-start
overflow_add-start c =
    let common-at = c.common_at-common in
    let payload-end = c.payload_end-e in
    omega (arith, common-at.ensures, payload-end.ensures)

pub overflow_sub-e : goal.overflow_sub-e
overflow_sub-e c =
    let common-at = c.common_at-common in
    let payload-end = c.payload_end-e in
    omega (arith, common-at.ensures, payload-end.ensures)

pub overflow_add-start-2 : goal.overflow_add-start-2
overflow_add-start-2 c =
    let of-bytes = c.of_bytes-field in
    let common-at = c.common_at-common in
    let n = ap (λ (f : LengthField). f.length) of-bytes.ensures in
    omega (arith, n, common-at.ensures)

pub past_providers-requires : goal.past_providers-requires
past_providers-requires c =
    let args = c.args in
    let common-at = c.common_at-common in
    let of-bytes = c.of_bytes-field in
    let payload-end = c.payload_end-e in
    let pre = c.requires in
    let check-left = c.check_left in
    let s = args.s.now in
    let k = common-at.ensures in
    let n : of-bytes.result.length ≡ length_at s common_place = rw k at (ap (λ (f : LengthField). f.length) of-bytes.ensures) in
    let e : payload-end.result ≡ payload_end s = payload-end.ensures ∙ ap (λ m. m - crc_length) pre.0 in
    let v = sym (common-said s _ _ _ check-left.ensures n (rw (e, k))) ∙ c.in_ok-check_left.was in
    let w : block_end s common_place ≤ payload_end s = common-passed s (omega arith) v in
    ((pre.0, (e, omega (arith, k, n))), (omega (arith, k, n, e), (omega (arith, e), omega (arith, e))))

pub returns : goal.returns
returns c =
    let args = c.args in
    let common-at = c.common_at-common in
    let of-bytes = c.of_bytes-field in
    let payload-end = c.payload_end-e in
    let pre = c.requires in
    let check-left = c.check_left in
    let s = args.s.now in
    let k = common-at.ensures in
    let n : of-bytes.result.length ≡ length_at s common_place = rw k at (ap (λ (f : LengthField). f.length) of-bytes.ensures) in
    let e : payload-end.result ≡ payload_end s = payload-end.ensures ∙ ap (λ m. m - crc_length) pre.0 in
    let v = sym (common-said s _ _ _ check-left.ensures n (rw (e, k))) ∙ c.in_ok-check_left.was in
    rw (payload-on s v) c.past_providers.ensures

pub returns-in_err-check_left : goal.returns-in_err-check_left
returns-in_err-check_left c =
    let args = c.args in
    let common-at = c.common_at-common in
    let of-bytes = c.of_bytes-field in
    let payload-end = c.payload_end-e in
    let pre = c.requires in
    let check-left = c.check_left in
    let s = args.s.now in
    let k = common-at.ensures in
    let n : of-bytes.result.length ≡ length_at s common_place = rw k at (ap (λ (f : LengthField). f.length) of-bytes.ensures) in
    let e : payload-end.result ≡ payload_end s = payload-end.ensures ∙ ap (λ m. m - crc_length) pre.0 in
    handed-on _ _ c.from_residual.ensures ∙ refused-walked _ _ _ (payload-stop s _ (sym (common-said s _ _ _ check-left.ensures n (rw (e, k))) ∙ c.in_err-check_left.was))
