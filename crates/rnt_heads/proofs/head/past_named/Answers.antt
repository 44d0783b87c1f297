use mathlib.Core.Path.{◌≡◌, refl, ap, ◌∙◌}
use native.Mathlib.Omega.{arith}
use Rattle.length_field.specs.declared.LengthField.{LengthField}
use Rattle.length_field.proofs.Blocks.{block-cut, block-long}
use Rattle.wire.proofs.Verdicts.{at-reached}
use Rattle.rnt.proofs.Names.{name-length-cut, name_cut, name-whole, named-pass}
use Rattle.rnt_heads.proofs.HeadLaws.{cut-reached}
use borrow.Author.Rules.{rules}
use Rattle.rnt_heads.proofs.head.past_named.Goals as goal

pub returns-then-e-first : goal.returns-then-e-first
returns-then-e-first c =
    let args = c.args in
    c.cut.ensures ∙ cut-reached _ _ _ _ _ (name-length-cut _ _ args.s.now args.e args.p c.if-e-first.true)

pub returns-then-e-behind : goal.returns-then-e-behind
returns-then-e-behind c =
    let wide = c.wide in
    let args = c.args in
    c.cut-then-e-behind.ensures ∙ rw wide.ensures.0 (cut-reached _ _ _ _ _ (name_cut _ _ args.s.now args.e args.p (omega arith) (omega (arith, wide.ensures.0))))

pub returns-then-e-start : goal.returns-then-e-start
returns-then-e-start c =
    let wide = c.wide in
    let args = c.args in
    let n = wide.ensures.0 in
    c.cut-then-e-start.ensures ∙ rw n (cut-reached _ _ _ _ _ (name-whole _ _ args.s.now args.e args.p (omega (arith, n)) ∙ block-cut _ _ _ _ args.s.now args.e _ (omega (arith, n))))

pub overflow_add-end : goal.overflow_add-end
overflow_add-end c = omega (arith, ap (λ (f : LengthField). f.length) c.of_bytes-field.ensures)

pub returns-then-e-end : goal.returns-then-e-end
returns-then-e-end c =
    let wide = c.wide in
    let of-bytes = c.of_bytes-field in
    let args = c.args in
    let n = wide.ensures.0 in
    let l = ap (λ (f : LengthField). f.length) of-bytes.ensures in
    c.cut-then-e-end.ensures ∙ rw (l, n) (cut-reached _ _ _ _ _ (name-whole _ _ args.s.now args.e args.p (omega (arith, n)) ∙ block-long _ _ _ _ args.s.now args.e _ (omega (arith, n)) (rw n at (rw l at c.if-e-end.true))))

pub returns : goal.returns
returns c =
    let wide = c.wide in
    let of-bytes = c.of_bytes-field in
    let args = c.args in
    let n = wide.ensures.0 in
    let l = ap (λ (f : LengthField). f.length) of-bytes.ensures in
    rw (l, n) (at-reached _ _ _ (named-pass _ _ args.s.now args.e args.p (rw n at (rw l at c.if-e-end.false))) refl)
