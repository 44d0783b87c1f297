-- Where a reading finds a provider by number and an authority of it by number.
-- Assumes nothing.
use Rattle.std.specs.Prelude.{ℕ, List, map, get_or, Err, Ok, Result}
use Rattle.frame.specs.Reading.{total_of}
use Rattle.rnt.specs.Reading.{provider_places, provider_count, provider_place, authority_count, authority_place}
use Rattle.rnt_walker.specs.declared.RntPlaces.{RntPlaces}
use Rattle.wire.specs.Verdict.{Verdict}
use Rattle.wire.specs.declared.verdict.Refusal.{Refusal}

-- of provider k the number of authorities and the place of authority j; 0 where there is no such provider or authority
abbrev pub authorities_of : List ℕ → ℕ → ℕ
authorities_of xs k = get_or (map (authority_count xs) (provider_places xs)) k 0

abbrev pub authority_of : List ℕ → ℕ → ℕ → ℕ
authority_of xs k j = get_or (map (λ p. authority_place xs p j) (provider_places xs)) k 0

abbrev pub places_at : List ℕ → ℕ → ℕ → RntPlaces
places_at xs k j =
    record { total = total_of xs; providers = provider_count xs; provider_at = provider_place xs k; authorities = authorities_of xs k; authority_at = authority_of xs k j }

-- the places, or the refusal
unfoldable pub walked : Verdict → RntPlaces → Result RntPlaces Refusal
walked (Ok _) p = Ok p
walked (Err r) p = Err r
