-- What `body_places` answers, made and taken apart.
-- Assumes nothing.
use mathlib.Core.Path.{◌≡◌, refl, sym, ap}
use Prim.Native.Nat.{ℕ}
use native.Mathlib.Omega.{arith}
use mathlib.Core.List.{List}
use Rattle.wire.specs.declared.verdict.Refusal.{Refusal}
use Rattle.link.specs.Reading.{uri_end_place, count_place, tail_place, body_verdict}
use Rattle.link_walker.specs.Places.{places_found, body_places, found_places}
use Rattle.std.specs.Prelude.{Err, Ok}
use Rattle.wire.specs.Verdict.{Fine, Verdict}
use Rattle.wire.proofs.Verdicts.{ok-same}

pub record Found (xs : List ℕ) (u p t : ℕ) : Type 0 where
  pub fine : body_verdict xs ≡ Fine
  pub uri : u ≡ uri_end_place xs
  pub count : p ≡ count_place xs
  pub tail : t ≡ tail_place xs

module _ (xs : List ℕ) where
  pub places-at : (u p t : ℕ) → body_places xs ≡ found_places u p t → Found xs u p t
  unfolding body_places places_found
  places-at u p t e = go (body_verdict xs) refl e
    where
      go : (v : Verdict) → body_verdict xs ≡ v → places_found v (uri_end_place xs) (count_place xs) (tail_place xs) ≡ found_places u p t → Found xs u p t
      go (Ok _) w q =
          let same = ok-same _ _ q in
          record { fine = w; uri = sym (ap (λ f. f.uri_end) same); count = sym (ap (λ f. f.count_at) same); tail = sym (ap (λ f. f.tail) same) }
      go (Err r) w q = let z : ◌≡◌ {A = ℕ} 0 1 = cc in absurd (omega arith)

  pub places-refused : (r : Refusal) → body_places xs ≡ Err r → body_verdict xs ≡ Err r
  unfolding body_places places_found
  places-refused r e = go (body_verdict xs) e
    where
      go : (v : Verdict) → places_found v (uri_end_place xs) (count_place xs) (tail_place xs) ≡ Err r → v ≡ Err r
      go (Ok _) q = let z : ◌≡◌ {A = ℕ} 0 1 = cc in absurd (omega arith)
      go (Err s) q = cc

  pub at_places : (u p t : ℕ) → Found xs u p t → found_places u p t ≡ body_places xs
  unfolding body_places places_found
  at_places u p t f = rw (f.fine, f.uri, f.count, f.tail)

  pub refused-places : (r : Refusal) → body_verdict xs ≡ Err r → Err r ≡ body_places xs
  unfolding body_places places_found
  refused-places r v = rw v
