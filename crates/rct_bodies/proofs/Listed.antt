-- Which numbers the body of a link by number can answer at all: 1 to 19 and 21.
-- Assumes nothing.
use Prim.Native.Nat.{ℕ}
use mathlib.Core.Path.{◌≡◌, refl}
use mathlib.Core.Bool.{true}
use mathlib.Core.List.{List, [], ◌∷◌, ◌++◌}
use Rattle.wire.specs.Refusals.{no_such_number}
use Rattle.wire.specs.declared.verdict.Refusal.{Refusal}
use Rattle.wire.proofs.Among.{listed, Among, among_then, among-more}
use Rattle.rct.proofs.Listed.{plain_reading, plain-listed, number-listed}
use Rattle.rct_bodies.specs.Bodies.{link_rows, numbered_body}
use Rattle.rct_bodies.proofs.Bodies.{body-stopped}
use Rattle.std.specs.Prelude.{Err}

abbrev pub number_reading : List ℕ
number_reading = plain_reading ++ no_such_number ∷ []

pub rows-listed : (xs : List ℕ) (k : ℕ) → Among number_reading (link_rows xs k)
unfolding link_rows
rows-listed xs k =
    among_then number_reading _ _ (among-more plain_reading number_reading _ refl (plain-listed xs)) (among-more (no_such_number ∷ []) number_reading _ refl (number-listed xs k))

pub body-listed : (xs : List ℕ) (k : ℕ) (r : Refusal) → numbered_body xs k ≡ Err r → listed r.number number_reading ≡ true
body-listed xs k r e = rows-listed xs k r (body-stopped xs k r e)
