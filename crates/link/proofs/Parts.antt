-- The parts of a body that are handed back: the URI by where it ends, the descriptors by where they start, a text by its
-- item; and each lies within the body.
-- Assumes nothing.
use mathlib.Core.Path.{◌≡◌, refl, sym, ap, ◌∙◌}
use Prim.Native.Nat.{ℕ, ◌+◌, ◌-◌, ◌≤◌, ◌<◌}
use native.Mathlib.Omega.{arith}
use native.Mathlib.Nat.{zero-add}
use mathlib.Core.Bool.{Bool, true, false}
use mathlib.Core.List.{List}
use lib.ListN.{length, get_or}
use Rattle.wire.specs.Choice.{pick}
use Rattle.length_field.specs.Lengths.{length_at}
use Rattle.spans.specs.Spans.{span}
use Rattle.wire.specs.Verdict.{is_fine, Fine, Verdict}
use Rattle.spans.specs.declared.Span.{Span}
use Rattle.wire.specs.declared.verdict.Refusal.{Refusal}
use Rattle.link.specs.Syntax.{head_length, uri_due}
use Rattle.link.specs.Reading.{type_at, uri_start, uri_end_place, items_place, item_place, tail_place, body_verdict}
use Rattle.link.specs.Answers.{item_rows, item_read}
use Rattle.link.specs.Parts.{uri_span, text_at, text_span, descriptor_span}
use Rattle.link.specs.declared.LinkItem.{LinkItem}
use Rattle.link.proofs.Bounds.{body-known, front-known, rest-known, item-had, item-not, text-within}
use Rattle.link.proofs.Nothing.{no-uri}
use Rattle.std.specs.Prelude.{Err, Ok}

-- ends within xs
abbrev pub Inside : List ℕ → Span → Type 0
Inside xs s = s.start + s.length ≤ length xs

-- by the verdict: what is there where it is fine, and else the empty part
either : (xs : List ℕ) (v : Verdict) (s : Span) → (v ≡ Fine → Inside xs s) → Inside xs (pick (is_fine v) s (span 0 0))
either xs (Ok _) s f = f refl
either xs (Err r) s f = omega arith

module _ (xs : List ℕ) where
  -- ---- the URI: it is there exactly if it ends where one can start, or behind that

  pub uri-ends : body_verdict xs ≡ Fine → uri_start ≤ uri_end_place xs → span uri_start (uri_end_place xs - uri_start) ≡ uri_span xs
  unfolding uri_span
  uri-ends v h = rw v (go (uri_due (type_at xs)) h)
    where
      n : ℕ
      n = get_or xs head_length 0

      back : uri_start + n - uri_start ≡ n
      back = omega arith

      go : (b : Bool) → uri_start ≤ pick b (uri_start + n) head_length → span uri_start (pick b (uri_start + n) head_length - uri_start) ≡ pick b (span uri_start n) (span 0 0)
      go true h = rw back
      go false h = absurd (omega arith)

  pub uri-ends-not : uri_end_place xs < uri_start → span 0 0 ≡ uri_span xs
  uri-ends-not h = sym (no-uri xs (go (uri_due (type_at xs)) h))
    where
      go : (b : Bool) → pick b (uri_start + get_or xs head_length 0) head_length < uri_start → b ≡ false
      go true h = absurd (omega arith)
      go false h = refl

  pub uri-inside : Inside xs (uri_span xs)
  unfolding uri_span
  uri-inside = either xs (body_verdict xs) _ (λ v. go (uri_due (type_at xs)) (front-known xs (body-known xs v).0).uri)
    where
      go : (b : Bool) → pick b (uri_start + get_or xs head_length 0) head_length ≤ length xs → Inside xs (pick b (span uri_start (get_or xs head_length 0)) (span 0 0))
      go true h = h
      go false h = omega arith

  -- ---- a text: the range of its item, counted from the body

  pub text-got : (i : ℕ) (l : LinkItem) → item_read 0 xs i ≡ Ok l → span l.promotional_text.start l.promotional_text.length ≡ text_span xs i
  unfolding text_span
  text-got i l e = let g = item-had 0 xs i l e in rw (← g.1) (rw (g.0, zero-add))

  pub text-not : (i : ℕ) (r : Refusal) → item_read 0 xs i ≡ Err r → span 0 0 ≡ text_span xs i
  unfolding text_span
  text-not i r e = rw (item-not 0 xs i r e)

  pub text-inside : (i : ℕ) → Inside xs (text_span xs i)
  unfolding text_span
  text-inside i = either xs (item_rows xs i) (text_at xs (item_place i xs (items_place xs))) (text-within xs i)

  -- ---- the descriptors: all that is left behind their length

  ends : body_verdict xs ≡ Fine → tail_place xs + 2 + length_at xs (tail_place xs) ≡ length xs
  ends v = (rest-known xs (body-known xs v).1).1

  pub tail-inside : body_verdict xs ≡ Fine → tail_place xs + 2 ≤ length xs
  tail-inside v = omega (arith, ends v)

  pub descriptors-left : body_verdict xs ≡ Fine → span (tail_place xs + 2) (length xs - (tail_place xs + 2)) ≡ descriptor_span xs
  unfolding descriptor_span
  descriptors-left v = let n : length xs - (tail_place xs + 2) ≡ length_at xs (tail_place xs) = omega (arith, ends v) in rw (v, n)

  pub descriptors-inside : Inside xs (descriptor_span xs)
  unfolding descriptor_span
  descriptors-inside = either xs (body_verdict xs) _ (λ v. omega (arith, ends v))
