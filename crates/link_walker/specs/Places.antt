-- What `body_places` answers: where the parts of an accepted body stand, or the refusal.
-- Assumes nothing.
use Rattle.std.specs.Prelude.{ℕ, List, Err, Ok, Result}
use Rattle.link.specs.Reading.{uri_end_place, count_place, tail_place, body_verdict}
use Rattle.link_walker.specs.declared.BodyPlaces.{BodyPlaces}
use Rattle.wire.specs.Verdict.{Verdict}
use Rattle.wire.specs.declared.verdict.Refusal.{Refusal}

abbrev pub found_places : ℕ → ℕ → ℕ → Result BodyPlaces Refusal
found_places u p t = Ok (record { uri_end = u; count_at = p; tail = t })

unfoldable pub places_found : Verdict → ℕ → ℕ → ℕ → Result BodyPlaces Refusal
places_found (Ok _) u p t = found_places u p t
places_found (Err r) u p t = Err r

unfoldable pub body_places : List ℕ → Result BodyPlaces Refusal
body_places xs = places_found (body_verdict xs) (uri_end_place xs) (count_place xs) (tail_place xs)
