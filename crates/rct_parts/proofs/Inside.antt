-- Each part lies in the section, also where there is none.
-- Assumes nothing.
use mathlib.Core.Path.{◌≡◌, refl}
use Prim.Native.Nat.{ℕ, ◌+◌, ◌≤◌}
use native.Mathlib.Omega.{arith}
use mathlib.Core.List.{List}
use lib.ListN.{length}
use Rattle.wire.specs.Lists.{Bytes, within}
use Rattle.length_field.specs.Lengths.{length_at, beside_at}
use Rattle.spans.specs.Spans.{span, span_in}
use Rattle.spans.proofs.SpanLaws.{span-inside}
use Rattle.frame.specs.Reading.{plain_demands}
use Rattle.rct.specs.Reading.{link_place, plain}
use Rattle.rct.proofs.Accepted.{accepted}
use Rattle.rct_reader.specs.Sections.{section_read}
use Rattle.rct_bodies.specs.Bodies.{link_rows, body_place, body_answer, numbered_body}
use Rattle.rct_bodies.proofs.Bodies.{link-known}
use Rattle.rct_parts.specs.Parts.{body_span_of, loop_span_of, body_span, loop_span}
use Rattle.std.specs.Prelude.{Err, Ok}
use Rattle.wire.specs.Verdict.{Verdict}

-- the place of a part of a part
pub within-within : (q : ℕ × ℕ) (a b : ℕ) → within (within q a) b ≡ within q (b + a)
within-within q a b = let e : b + (a + q.1) ≡ b + a + q.1 = omega arith in rw e

pub body-inside : (xs : List ℕ) (k : ℕ) → Bytes xs → span_in xs (body_span xs k) ≡ body_span xs k
unfolding numbered_body body_answer body_span_of
body-inside xs k b = span-inside xs (body_span xs k) (by (link_rows xs k) refl)
  where
    by : (v : Verdict) → link_rows xs k ≡ v
        → (body_span_of (body_answer v (beside_at xs (link_place xs k)) (body_place xs k) (length_at xs (link_place xs k)))).start
        + (body_span_of (body_answer v (beside_at xs (link_place xs k)) (body_place xs k) (length_at xs (link_place xs k)))).length ≤ length xs
    by (Ok _) e = let l = link-known xs k b e in omega (arith, l.within, l.end)
    by (Err r) e = omega arith

pub loop-inside : (xs : List ℕ) → Bytes xs → span_in xs (loop_span xs) ≡ loop_span xs
unfolding section_read loop_span_of
loop-inside xs b = span-inside xs (loop_span xs) (by (plain xs) refl)
  where
    by : (v : Verdict) → plain xs ≡ v → (loop_span_of (section_read v xs)).start + (loop_span_of (section_read v xs)).length ≤ length xs
    by (Ok _) e = let a = accepted plain_demands xs b e in omega (arith, a.loop_end, a.frame.within)
    by (Err r) e = omega arith
