-- The places of an index while they are told anew: those up to number j are done.
-- Assumes nothing.
use Prim.Native.Nat.{ℕ, ◌+◌, ◌≤◌, ◌<◌, max}
use mathlib.Core.Path.{◌≡◌, refl, sym, ap, ◌∙◌}
use mathlib.Core.Logic.{◌≢◌}
use mathlib.Core.List.{List}
use native.Mathlib.Omega.{arith}
use lib.ListN.{get_or, set}
use Rattle.rct_index.specs.Editing.{moved_place, new_place, by_number}
use Rattle.rct_index.proofs.BroughtUp.{place-named, place-later, place-before, place-above, stands}
use Rattle.rct_index.proofs.Places.{same-numbered, nothing-numbered, stays_at, store_at}

module _ (k n q old new : ℕ) (ps : List ℕ) where
  abbrev pub up_to : ℕ → List ℕ
  up_to j = by_number (new_place k j q old new) 0 ps

  -- the named link's place is stored first
  pub step-first : set ps k q ≡ up_to (k + 1)
  step-first =
      ap (λ (r : List ℕ). set r k q) (sym (nothing-numbered 0 ps))
      ∙ store_at (λ j p. p) (new_place k (k + 1) q old new) ps k q other (sym (place-named k (k + 1) q old new k (get_or ps k 0) refl))
    where
      other : (i p : ℕ) → i ≢ k → p ≡ new_place k (k + 1) q old new i p
      other i p d =
          stands k (k + 1) i (λ e. absurd (d e)) (λ h. sym (place-before k (k + 1) q old new i p h)) (λ g h. absurd (omega arith)) (λ g h. sym (place-above k (k + 1) q old new i p g h))

  -- then that of each later one
  module _ (j : ℕ) (h : k < j) where
    same_place : get_or (up_to j) j 0 ≡ get_or ps j 0
    same_place = stays_at (new_place k j q old new) ps j (λ p. place-above k j q old new j p h (omega arith))

    other : (i p : ℕ) → i ≢ j → new_place k j q old new i p ≡ new_place k (j + 1) q old new i p
    other i p d =
        stands k j i
        (λ e. place-named k j q old new i p e ∙ sym (place-named k (j + 1) q old new i p e))
        (λ g. place-before k j q old new i p g ∙ sym (place-before k (j + 1) q old new i p g))
        (λ g m. place-later k j q old new i p g m ∙ sym (place-later k (j + 1) q old new i p g (omega arith)))
        (λ g m. place-above k j q old new i p g m ∙ sym (place-above k (j + 1) q old new i p g (omega arith)))

    pub step-on : (v : ℕ) → v ≡ moved_place old new (get_or (up_to j) j 0) → set (up_to j) j v ≡ up_to (j + 1)
    step-on v e =
        store_at (new_place k j q old new) (new_place k (j + 1) q old new) ps j v other
        (e ∙ ap (moved_place old new) same_place ∙ sym (place-later k (j + 1) q old new j (get_or ps j 0) h (omega arith)))

  -- and behind the last all are done
  pub step-last : (j : ℕ) → k < j → j ≤ max (k + 1) n → n ≤ j → up_to j ≡ up_to n
  step-last j h m l = same-numbered (new_place k j q old new) (new_place k n q old new) 0 ps (λ i p z. same i p)
    where
      same : (i p : ℕ) → new_place k j q old new i p ≡ new_place k n q old new i p
      same i p =
          stands k j i
          (λ e. place-named k j q old new i p e ∙ sym (place-named k n q old new i p e))
          (λ g. place-before k j q old new i p g ∙ sym (place-before k n q old new i p g))
          (λ g o. place-later k j q old new i p g o ∙ sym (place-later k n q old new i p g (omega arith)))
          (λ g o. place-above k j q old new i p g o ∙ sym (place-above k n q old new i p g (omega arith)))
