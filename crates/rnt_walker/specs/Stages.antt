-- What the walk's own stages answer: nothing that a public contract cites.
-- Assumes nothing.
use Rattle.std.specs.Prelude.{ℕ, List, length, get_or, Err, Ok, Result}
use Rattle.wire.specs.Runs.{places_to, each_row}
use Rattle.frame.specs.Reading.{payload_end}
use Rattle.rnt.specs.Reading.{named_end, provider_places, authority_verdict, provider_verdict}
use Rattle.rnt_walker.specs.declared.walk.Counted.{Counted}
use Rattle.rnt_walker.specs.declared.walk.Passed.{Passed}
use Rattle.wire.specs.Verdict.{Verdict}
use Rattle.wire.specs.declared.verdict.Refusal.{Refusal}

abbrev pub passed_at : ℕ → ℕ → ℕ → Result Passed Refusal
passed_at q n p = Ok (record { end = q; count = n; place = p })

abbrev pub counted_at : ℕ → ℕ → Result Counted Refusal
counted_at n p = Ok (record { count = n; place = p })

-- of things at those places: how many, and where number k stands
unfoldable pub counted : Verdict → List ℕ → ℕ → Result Counted Refusal
counted (Ok _) ps k = counted_at (length ps) (get_or ps k 0)
counted (Err r) ps k = Err r

unfoldable pub passed : Verdict → ℕ → List ℕ → ℕ → Result Passed Refusal
passed (Ok _) q ps k = passed_at q (length ps) (get_or ps k 0)
passed (Err r) q ps k = Err r

-- the authorities from p up to e, and all providers
abbrev pub authorities_verdict : List ℕ → ℕ → ℕ → Verdict
authorities_verdict xs e p = each_row (authority_verdict xs e) (places_to (named_end xs) e p)

abbrev pub providers_verdict : List ℕ → Verdict
providers_verdict xs = each_row (provider_verdict xs (payload_end xs)) (provider_places xs)
