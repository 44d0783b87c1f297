-- What there is none of has the place 0, and no authorities.
-- Assumes nothing.
use mathlib.Core.Path.{◌≡◌, ◌∙◌}
use Prim.Native.Nat.{ℕ, ◌≤◌, ◌<◌}
use mathlib.Core.List.{List, map}
use lib.ListN.{length-map, get_or-eq_default}
use Rattle.wire.proofs.RunLaws.{told_at}
use Rattle.rnt.specs.Reading.{authority_places, provider_places, provider_count, provider_place, authority_count, authority_place}
use Rattle.rnt_walker.specs.Places.{places_at}

module _ (xs : List ℕ) (k j : ℕ) where
  pub no-provider : provider_count xs ≤ k → ((places_at xs k j).provider_at ≡ 0) × (((places_at xs k j).authorities ≡ 0) × ((places_at xs k j).authority_at ≡ 0))
  no-provider h = (
    get_or-eq_default (provider_places xs) 0 h,
    (
      get_or-eq_default (map (authority_count xs) (provider_places xs)) 0 (rw length-map h),
      get_or-eq_default (map (λ p. authority_place xs p j) (provider_places xs)) 0 (rw length-map h),
    ),
  )

  pub no-such-authority : k < provider_count xs → (places_at xs k j).authorities ≤ j → (places_at xs k j).authority_at ≡ 0
  no-such-authority h l =
      told_at (λ p. authority_place xs p j) (provider_places xs) k 0 h
      ∙ get_or-eq_default (authority_places xs (provider_place xs k)) 0 (rw (told_at (authority_count xs) (provider_places xs) k 0 h) at l)
