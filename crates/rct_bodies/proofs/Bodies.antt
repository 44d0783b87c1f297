-- What the body of a link by number answers, case by case, over plain lists, and what an accepted section leaves known of link k.
-- Assumes nothing.
use mathlib.Core.Path.{◌≡◌, refl, sym, ap, ◌∙◌}
use Prim.Native.Nat.{ℕ, ◌+◌, ◌≤◌, ◌<◌}
use native.Mathlib.Omega.{arith}
use mathlib.Core.List.{List}
use lib.ListN.{length, get_or}
use borrow.Author.Tests.{le-leb}
use Rattle.wire.specs.Lists.{Bytes}
use Rattle.length_field.specs.Lengths.{length_at, beside_at, block_end}
use Rattle.wire.specs.Refusals.{no_such_number}
use Rattle.spans.specs.Spans.{span, span_of, span_in}
use Rattle.wire.specs.Verdict.{bad, Fine, Verdict}
use Rattle.wire.specs.declared.verdict.Refusal.{Refusal}
use Rattle.spans.proofs.SpanLaws.{span-inside}
use Rattle.wire.proofs.Verdicts.{then-fine, fine-then, go_on, refused-then, refused-row, passed-leb, pass-leb, ok-same}
use Rattle.link.specs.Syntax.{Link}
use Rattle.link.specs.Reading.{body_verdict}
use Rattle.frame.specs.Syntax.{longest_payload}
use Rattle.frame.specs.Reading.{payload_end, plain_demands}
use Rattle.rct.specs.Syntax.{head_length}
use Rattle.rct.specs.Reading.{link_in, count_at, link_place, section_at, plain, number_row}
use Rattle.rct.proofs.Accepted.{accepted}
use Rattle.rct.proofs.Links.{found}
use Rattle.rct_walker.specs.Places.{link_span, places_at, some_span}
use Rattle.rct_walker.proofs.Walks.{span-known, span-absent}
use Rattle.rct_walker.specs.declared.RctPlaces.{RctPlaces}
use Rattle.rct_bodies.specs.Bodies.{link_rows, body_place, body_of, found_body, body_answer, numbered_body}
use Rattle.rct_bodies.specs.declared.NumberedBody.{NumberedBody}
use Rattle.std.specs.Prelude.{Err, None, Ok}

-- ---- the rows of link k

module _ (xs : List ℕ) (k : ℕ) where
  pub rows-stop : (r : Refusal) → plain xs ≡ Err r → link_rows xs k ≡ Err r
  unfolding link_rows
  rows-stop r v = refused-then _ _ r v

  pub rows-21 : plain xs ≡ Fine → count_at xs ≤ k → link_rows xs k ≡ bad no_such_number k (count_at xs)
  unfolding link_rows number_row
  rows-21 v h = go_on _ _ v ∙ refused-row _ _ _ _ (le-leb _ _ h)

  pub rows-fine : plain xs ≡ Fine → k < count_at xs → link_rows xs k ≡ Fine
  unfolding link_rows number_row
  rows-fine v h = fine-then _ _ v (pass-leb (count_at xs) k _ _ _ h)

pub record LinkKnown (xs : List ℕ) (k : ℕ) : Type 0 where
  pub plainly : plain xs ≡ Fine
  pub below : k < count_at xs
  pub good : body_verdict (body_of xs k) ≡ Fine
  pub within : block_end xs (link_place xs k) ≤ payload_end xs
  pub end : payload_end xs ≤ length xs
  pub short : payload_end xs ≤ longest_payload
  pub link : (d : Link) → get_or (section_at xs).links k d ≡ link_in xs (link_place xs k)

pub link-known : (xs : List ℕ) (k : ℕ) → Bytes xs → link_rows xs k ≡ Fine → LinkKnown xs k
unfolding link_rows number_row section_at
link-known xs k b v =
    let two = then-fine (plain xs) _ v in
    let h : k < count_at xs = passed-leb (count_at xs) k _ _ _ two.1 in
    let a = accepted plain_demands xs b two.0 in
    let f = found (count_at xs) k xs (payload_end xs) head_length b (omega arith) a.links_fine h in
    record { plainly = two.0; below = h; good = f.good; within = f.within; end = omega arith; short = omega arith; link = f.link }

-- ---- the body of link k

-- what the walk's places say of a link that there is
pub record AtKnown (xs : List ℕ) (k p : ℕ) : Type 0 where
  pub rows : link_rows xs k ≡ Fine
  pub place : link_place xs k ≡ p
  pub within : p + 2 ≤ length xs
  pub short : p ≤ longest_payload

module _ (xs : List ℕ) (k : ℕ) (n : RctPlaces) (is : n ≡ places_at xs k) (v : plain xs ≡ Fine) where
  counted : n.count ≡ count_at xs
  counted = ap (λ (m : RctPlaces). m.count) is

  spanned : n.link ≡ link_span xs k
  spanned = ap (λ (m : RctPlaces). m.link) is

  pub at-known : (p q : ℕ) → Bytes xs → k < n.count → n.link ≡ some_span p q → AtKnown xs k p
  at-known p q b h e =
      let below : k < count_at xs = omega (arith, counted) in
      let rows = rows-fine xs k v below in
      let l = link-known xs k b rows in
      let at = (span-known xs k p q below (sym spanned ∙ e)).start in
      record { rows = rows; place = at; within = omega (arith, at, l.within, l.end); short = omega (arith, at, l.within, l.short) }

  pub at-21 : n.count ≤ k → link_rows xs k ≡ bad no_such_number k n.count
  at-21 h = rows-21 xs k v (omega (arith, counted)) ∙ rw counted

  pub at-never : k < n.count → n.link ≡ None → ⊥
  at-never h e = span-absent xs k (sym spanned ∙ e) (omega (arith, counted))

module _ (xs : List ℕ) (k : ℕ) where
  pub body_refused : (r : Refusal) → link_rows xs k ≡ Err r → Err r ≡ numbered_body xs k
  unfolding numbered_body body_answer
  body_refused r v = rw v

  pub body-found : (r p n : ℕ) → link_rows xs k ≡ Fine → r ≡ beside_at xs (link_place xs k) → p ≡ body_place xs k → n ≡ length_at xs (link_place xs k)
      → found_body r p n ≡ numbered_body xs k
  unfolding numbered_body body_answer
  body-found r p n v a b c = rw (v, a, b, c)

  -- and back
  pub body-stopped : (r : Refusal) → numbered_body xs k ≡ Err r → link_rows xs k ≡ Err r
  unfolding numbered_body body_answer
  body-stopped r = go (link_rows xs k) _ _ _
    where
      go : (v : Verdict) (b p n : ℕ) → body_answer v b p n ≡ Err r → v ≡ Err r
      go (Ok _) b p n e = let z : ◌≡◌ {A = ℕ} 0 1 = cc in absurd (omega arith)
      go (Err q) b p n e = cc

body-had : (v : Verdict) (b p q : ℕ) (n : NumberedBody) → body_answer v b p q ≡ Ok n → (v ≡ Fine) × (record { reserved = b; body = span p q } ≡ n)
unfolding body_answer
body-had (Ok _) b p q n e = (refl, ok-same _ _ e)
body-had (Err r) b p q n e = let z : ◌≡◌ {A = ℕ} 0 1 = cc in absurd (omega arith)

-- what a body that was found says
pub record BodyKnown (xs : List ℕ) (k : ℕ) (n : NumberedBody) : Type 0 where
  pub rows : link_rows xs k ≡ Fine
  pub reserved : n.reserved ≡ beside_at xs (link_place xs k)
  pub start : n.body.start ≡ body_place xs k
  pub short : n.body.start ≤ 65535
  pub good : body_verdict (body_of xs k) ≡ Fine
  pub bytes : span_of xs (span_in xs n.body) ≡ body_of xs k

pub body-known : (xs : List ℕ) (k : ℕ) (n : NumberedBody) → Bytes xs → numbered_body xs k ≡ Ok n → BodyKnown xs k n
unfolding numbered_body
body-known xs k n b e =
    let had = body-had (link_rows xs k) _ _ _ n e in
    let l = link-known xs k b had.0 in
    let is : n ≡ record { reserved = beside_at xs (link_place xs k); body = span (body_place xs k) (length_at xs (link_place xs k)) } = sym had.1 in
    let start : n.body.start ≡ body_place xs k = ap (λ (m : NumberedBody). m.body.start) is in
    record {
      rows = had.0;
      reserved = ap (λ (m : NumberedBody). m.reserved) is;
      start = start;
      short = omega (arith, start, l.within, l.short);
      good = l.good;
      bytes = rw is (ap (span_of xs) (span-inside xs (span (body_place xs k) (length_at xs (link_place xs k))) (omega (arith, l.within, l.end))));
    }
