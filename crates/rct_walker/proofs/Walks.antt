-- What the stages of the walk answer, case by case, over plain lists: the code's returns cite these.
-- Assumes nothing.
use mathlib.Core.Path.{◌≡◌, refl, sym, ◌∙◌, ap}
use Prim.Native.Nat.{ℕ, zero, suc, ◌+◌, ◌-◌, ◌≤◌, ◌<◌, min}
use native.Mathlib.Omega.{arith}
use mathlib.Core.List.{List}
use lib.ListN.{take, drop}
use borrow.Author.Tests.{le-leb, lt-leb}
use Rattle.length_field.specs.Lengths.{length_at, block_end}
use Rattle.wire.specs.Verdict.{◌▷◌, Fine, Verdict}
use Rattle.wire.specs.declared.verdict.Refusal.{Refusal}
use Rattle.wire.proofs.Verdicts.{then-fine, go_on, refused-then, then-assoc, ok-same, some-same}
use Rattle.link.specs.Reading.{body_verdict}
use Rattle.rct.specs.Syntax.{head_length}
use Rattle.rct.specs.Reading.{after, count_at, link_place, loop_place, entry_verdict, links_verdict, loop_verdict}
use Rattle.rct.proofs.Links.{entry-passed, after-sum, links-sum}
use Rattle.rct_blocks.proofs.Entries.{Passed, entry-body, after_next}
use Rattle.rct_walker.specs.Places.{span_by, link_span, walked, some_span}
use Rattle.rct_walker.specs.Stages.{spanned, rest_verdict, found_span}
use Rattle.rct_walker.specs.declared.RctPlaces.{RctPlaces}
use Rattle.std.specs.Prelude.{Err, None, Ok}

-- ---- answers, made and taken apart

pub record SpanKnown (v : Verdict) (p q a b : ℕ) : Type 0 where
  pub fine : v ≡ Fine
  pub start : p ≡ a
  pub end : q ≡ b

pub spanned-at : (v : Verdict) (p q a b : ℕ) → spanned v p q ≡ found_span a b → SpanKnown v p q a b
unfolding spanned
spanned-at (Ok _) p q a b e = let same = ok-same _ _ e in record { fine = refl; start = ap (λ s. s.start) same; end = ap (λ s. s.end) same }
spanned-at (Err r) p q a b e = let z : ◌≡◌ {A = ℕ} 0 1 = cc in absurd (omega arith)

pub spanned-refused : (v : Verdict) (p q : ℕ) (r : Refusal) → spanned v p q ≡ Err r → v ≡ Err r
unfolding spanned
spanned-refused (Ok _) p q r e = let z : ◌≡◌ {A = ℕ} 0 1 = cc in absurd (omega arith)
spanned-refused (Err r') p q r e = cc

pub at-spanned : (v : Verdict) (p q a b : ℕ) → v ≡ Fine → p ≡ a → q ≡ b → found_span a b ≡ spanned v p q
unfolding spanned
at-spanned v p q a b f g h = rw (f, g, h)

pub refused-spanned : (v : Verdict) (p q : ℕ) (r : Refusal) → v ≡ Err r → Err r ≡ spanned v p q
unfolding spanned
refused-spanned v p q r e = rw e

pub walked-read : (v : Verdict) (k l : RctPlaces) → walked v k ≡ Ok l → (v ≡ Fine) × (k ≡ l)
unfolding walked
walked-read (Ok _) k l e = (refl, cc)
walked-read (Err r) k l e = let z : ◌≡◌ {A = ℕ} 0 1 = cc in absurd (omega arith)

pub walked-refused : (v : Verdict) (k : RctPlaces) (r : Refusal) → walked v k ≡ Err r → v ≡ Err r
unfolding walked
walked-refused (Ok _) k r e = let z : ◌≡◌ {A = ℕ} 0 1 = cc in absurd (omega arith)
walked-refused (Err r') k r e = cc

pub read-walked : (v : Verdict) (k l : RctPlaces) → v ≡ Fine → k ≡ l → Ok l ≡ walked v k
unfolding walked
read-walked v k l e f = rw (e, f)

pub refused-walked : (v : Verdict) (k : RctPlaces) (r : Refusal) → v ≡ Err r → Err r ≡ walked v k
unfolding walked
refused-walked v k r e = rw e

pub span-at : (n k p q : ℕ) → k ≤ n → some_span p q ≡ span_by n k p q
unfolding span_by
span-at n k p q h = rw (le-leb k n h)

pub span_none : (n k p q : ℕ) → n < k → None ≡ span_by n k p q
unfolding span_by
span_none n k p q h = rw (lt-leb k n h)

-- ---- one entry

-- the body's verdict as the code has it, of the part up to t
pub entry-said : (xs : List ℕ) (e p t : ℕ) (v : Verdict) → Passed xs e p t → v ≡ body_verdict (take (t - (p + 2)) (drop (p + 2) xs)) → v ≡ entry_verdict xs e p
entry-said xs e p t v k is = let d : t - (p + 2) ≡ length_at xs p = omega (arith, k.place) in is ∙ rw d (entry-body xs e p k.fine)

-- ---- the walk over n links from p on: i of them are behind it

pub walk-done : (xs : List ℕ) (e n i p : ℕ) → n ≤ i → links_verdict (n - i) xs e p ≡ Fine
walk-done xs e n i p h = let z : n - i ≡ 0 = omega arith in rw z

pub links-within : (n : ℕ) (xs : List ℕ) (e p : ℕ) → p ≤ e → links_verdict n xs e p ≡ Fine → after n xs p ≤ e
links-within zero xs e p h v = h
links-within (suc n) xs e p h v =
    let two = then-fine (entry_verdict xs e p) _ v in
    links-within n xs e (block_end xs p) (entry-passed xs e p two.0).within two.1

-- ---- two walks, the second from where the first ended

module _ (m n : ℕ) (xs : List ℕ) (e p : ℕ) where
  pub links-on : links_verdict m xs e p ≡ Fine → links_verdict n xs e (after m xs p) ≡ links_verdict (m + n) xs e p
  links-on v = sym (links-sum m n xs e p ∙ go_on _ _ v)

  pub links-stop : (r : Refusal) → links_verdict m xs e p ≡ Err r → links_verdict (m + n) xs e p ≡ Err r
  links-stop r v = links-sum m n xs e p ∙ refused-then _ _ r v

-- ---- the rest of a payload behind m of its links

module _ (xs : List ℕ) (e m n : ℕ) (is : m + n ≡ count_at xs) where
  whole : rest_verdict (count_at xs) xs e head_length ≡ links_verdict m xs e head_length ▷ rest_verdict n xs e (after m xs head_length)
  unfolding rest_verdict
  whole = rw (← is, links-sum m n xs e head_length, after-sum m n xs head_length) (then-assoc _ _ _)

  pub payload-stop : (r : Refusal) → links_verdict m xs e head_length ≡ Err r → rest_verdict (count_at xs) xs e head_length ≡ Err r
  payload-stop r v = whole ∙ refused-then _ _ r v

  pub payload-rest : links_verdict m xs e head_length ≡ Fine → rest_verdict (count_at xs) xs e head_length ≡ rest_verdict n xs e (after m xs head_length)
  payload-rest v = whole ∙ go_on _ _ v

  pub loop-place : after n xs (after m xs head_length) ≡ loop_place xs
  loop-place = rw (← is) (sym (after-sum m n xs head_length))

module _ (n : ℕ) (xs : List ℕ) (e p : ℕ) where
  pub rest-stop : (r : Refusal) → links_verdict n xs e p ≡ Err r → rest_verdict n xs e p ≡ Err r
  unfolding rest_verdict
  rest-stop r v = refused-then _ _ r v

  pub rest-loop : links_verdict n xs e p ≡ Fine → rest_verdict n xs e p ≡ loop_verdict xs e (after n xs p)
  unfolding rest_verdict
  rest-loop v = go_on _ _ v

-- ---- the numbers of links before link k and of its own

module _ (k n a b : ℕ) (p : a ≡ min k n) (q : b ≡ min (n - a) 1) where
  pub before-own : a + b ≡ min (k + 1) n
  before-own = omega arith

  pub left_over : a + b + (n - a - b) ≡ n
  left_over = omega arith

-- the span that the code puts together is that of link k
pub span-is : (xs : List ℕ) (k n a b p q : ℕ) → n ≡ count_at xs → a ≡ min k n → b ≡ min (n - a) 1 → link_place xs a ≡ p → link_place xs (a + b) ≡ q → span_by n k p q ≡ link_span xs k
span-is xs k n a b p q c f g u v = rw (← u, ← v, before-own k n a b f g, f, c)

-- the span of a link that there is, and that there is one
pub record SpanOf (xs : List ℕ) (k p q : ℕ) : Type 0 where
  pub start : link_place xs k ≡ p
  pub end : block_end xs (link_place xs k) ≡ q

pub span-known : (xs : List ℕ) (k p q : ℕ) → k < count_at xs → link_span xs k ≡ some_span p q → SpanOf xs k p q
unfolding span_by
span-known xs k p q h e =
    let m : min k (count_at xs) ≡ k = omega arith in
    let n : min (k + 1) (count_at xs) ≡ k + 1 = omega arith in
    both (rw (le-leb k (count_at xs) (omega arith), m, n) at e)
  where
    both : some_span (link_place xs k) (link_place xs (k + 1)) ≡ some_span p q → SpanOf xs k p q
    both f = let same = some-same _ _ f in record { start = ap (λ s. s.start) same; end = sym (after_next k xs head_length) ∙ ap (λ s. s.end) same }

pub span-absent : (xs : List ℕ) (k : ℕ) → link_span xs k ≡ None → k < count_at xs → ⊥
unfolding span_by
span-absent xs k e h = absent (rw (le-leb k (count_at xs) (omega arith)) at e)
  where
    absent : {a b : ℕ} → some_span a b ≡ None → ⊥
    absent f = let z : ◌≡◌ {A = ℕ} 0 1 = cc in omega arith
