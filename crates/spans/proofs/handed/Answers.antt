use Prim.Native.Nat.{◌+◌, ◌-◌}
use mathlib.Core.Path.{◌≡◌, refl}
use native.Mathlib.Omega.{arith}
use borrow.Author.Rules.{rules}
use Rattle.spans.proofs.SpanLaws.{span-inside, span-outside}
use Rattle.spans.proofs.handed.Goals as goal

pub returns-then-s-length : goal.returns-then-s-length
returns-then-s-length c =
    let a = c.args in
    record { result_value = rw (span-outside a.s.now a.span (omega (arith, c.if-s-length.true))) refl; ref_ptr_value = rw (span-outside a.s.now a.span (omega (arith, c.if-s-length.true))) refl }

pub returns-then-s-length-2 : goal.returns-then-s-length-2
returns-then-s-length-2 c =
    let a = c.args in
    record { result_value = rw (span-outside a.s.now a.span (omega (arith, c.if-s-length-2.true))) refl; ref_ptr_value = rw (span-outside a.s.now a.span (omega (arith, c.if-s-length-2.true))) refl }

pub returns : goal.returns
returns c =
    let if1 = c.if-s-length in
    let a = c.args in
    let n : a.span.start + a.span.length - a.span.start ≡ a.span.length = omega arith in
    let i = span-inside a.s.now a.span (omega (arith, if1.false, c.if-s-length-2.false)) in
    record { result_value = rw (i, n) refl; ref_ptr_value = rw i refl }
