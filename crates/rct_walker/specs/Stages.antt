-- What the walk's own stages answer: nothing that a public contract cites.
-- Assumes nothing.
use Rattle.std.specs.Prelude.{ℕ, List, Err, Ok, Result}
use Rattle.wire.specs.Verdict.{◌▷◌, Verdict}
use Rattle.rct.specs.Reading.{count_at, after, loop_place, links_verdict, loop_verdict}
use Rattle.rct_walker.specs.Places.{link_span}
use Rattle.rct_walker.specs.declared.RctPlaces.{RctPlaces}
use Rattle.rct_walker.specs.declared.walk.Spanned.{Spanned}
use Rattle.wire.specs.declared.verdict.Refusal.{Refusal}

abbrev pub found_span : ℕ → ℕ → Result Spanned Refusal
found_span p q = Ok (record { start = p; end = q })

unfoldable pub spanned : Verdict → ℕ → ℕ → Result Spanned Refusal
spanned (Ok _) p q = found_span p q
spanned (Err r) p q = Err r

-- n links from p on, then the loop
unfoldable pub rest_verdict : ℕ → List ℕ → ℕ → ℕ → Verdict
rest_verdict n xs e p = links_verdict n xs e p ▷ loop_verdict xs e (after n xs p)

-- the places in a payload ys, the section having t bytes
abbrev pub places_in : ℕ → List ℕ → ℕ → RctPlaces
places_in t ys k = record { total = t; link = link_span ys k; count = count_at ys; loop_at = loop_place ys }
