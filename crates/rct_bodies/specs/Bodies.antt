-- The answer of the body of a link by number.
-- Assumes nothing.
use Rattle.std.specs.Prelude.{ℕ, ◌+◌, List, Err, Ok, Result}
use Rattle.length_field.specs.Lengths.{length_at, beside_at}
use Rattle.spans.specs.Spans.{span}
use Rattle.wire.specs.Verdict.{◌▷◌, Verdict}
use Rattle.wire.specs.declared.verdict.Refusal.{Refusal}
use Rattle.rct.specs.Reading.{body_in, link_place, plain, number_row}
use Rattle.rct_bodies.specs.declared.NumberedBody.{NumberedBody}

-- link k: the plain reading, then 21 with the number and the count
unfoldable pub link_rows : List ℕ → ℕ → Verdict
link_rows xs k = plain xs ▷ number_row xs k

-- where its body stands
abbrev pub body_place : List ℕ → ℕ → ℕ
body_place xs k = link_place xs k + 2

abbrev pub body_of : List ℕ → ℕ → List ℕ
body_of xs k = body_in xs (link_place xs k)

abbrev pub found_body : ℕ → ℕ → ℕ → Result NumberedBody Refusal
found_body r p n = Ok (record { reserved = r; body = span p n })

-- the four bits before its length and the body's span, or the refusal
unfoldable pub body_answer : Verdict → ℕ → ℕ → ℕ → Result NumberedBody Refusal
body_answer (Ok _) r p n = found_body r p n
body_answer (Err q) r p n = Err q

unfoldable pub numbered_body : List ℕ → ℕ → Result NumberedBody Refusal
numbered_body xs k = body_answer (link_rows xs k) (beside_at xs (link_place xs k)) (body_place xs k) (length_at xs (link_place xs k))
