-- Where a reading finds the links and the descriptor loop.
-- Assumes nothing.
use Rattle.std.specs.Prelude.{ℕ, ◌+◌, min, List, leb, Err, None, Ok, Option, Result, Some}
use Rattle.wire.specs.Choice.{pick}
use Rattle.frame.specs.Reading.{total_of}
use Rattle.rct.specs.Reading.{count_at, link_place, loop_place}
use Rattle.rct_walker.specs.declared.RctPlaces.{RctPlaces}
use Rattle.rct_walker.specs.declared.LinkSpan.{LinkSpan}
use Rattle.rct_walker.specs.declared.RctLoop.{RctLoop}
use Rattle.wire.specs.Verdict.{Verdict}
use Rattle.wire.specs.declared.verdict.Refusal.{Refusal}

abbrev pub some_span : ℕ → ℕ → Option LinkSpan
some_span p q = Some (record { start = p; end = q })

abbrev pub found_loop : ℕ → ℕ → ℕ → Result RctLoop Refusal
found_loop t n p = Ok (record { total = t; count = n; loop_at = p })

-- of n links, link k lies between p and q; there is none above the number of links
unfoldable pub span_by : ℕ → ℕ → ℕ → ℕ → Option LinkSpan
span_by n k p q = pick (leb k n) (some_span p q) None

-- link k ends where the next one starts; at the number of links, where the next one would go, nothing lies between
abbrev pub link_span : List ℕ → ℕ → Option LinkSpan
link_span xs k = span_by (count_at xs) k (link_place xs (min k (count_at xs))) (link_place xs (min (k + 1) (count_at xs)))

abbrev pub places_at : List ℕ → ℕ → RctPlaces
places_at xs k = record { total = total_of xs; link = link_span xs k; count = count_at xs; loop_at = loop_place xs }

-- the places, or the refusal
unfoldable pub walked : Verdict → RctPlaces → Result RctPlaces Refusal
walked (Ok _) p = Ok p
walked (Err r) p = Err r

-- for the whole section no link's span is looked for: its total, the number of its links and the place of its loop, or the refusal
unfoldable pub loop_found : Verdict → List ℕ → Result RctLoop Refusal
loop_found (Ok _) xs = found_loop (total_of xs) (count_at xs) (loop_place xs)
loop_found (Err r) xs = Err r
