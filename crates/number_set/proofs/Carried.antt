-- What a function knows of a set that it is handed, as the types have it: it fits. At a need the premise is in `c.good`.
-- Of a set that is the first field of a struct the premise is `g.1.1.0`, of the next one `g.1.1.1.0`, where g is the struct's.
-- Assumes nothing.
use Prim.Native.Nat.{ℕ}
use mathlib.Core.List.{List, [], ◌∷◌}
use mir.Val.{Val}
use denote.Array.{each}
use denote.Builtin.{u64}
use denote.Laws.{Is}
use denote.Shadow.{shadow}
use denote.Struct.Declared as struct
use Rattle.number_set.specs.declared.NumberSet.{NumberSet}
use Rattle.number_set.specs.Members.{Words, Fits}
use Rattle.number_set.specs.contracts.NumberSet as set-type

words : (ws : List ℕ) (vs : List Val) → shadow (each u64.Denot u64.own_val ws vs) → Words ws
words [] vs g = tt
words (w ∷ ws) [] g = absurd g
words (w ∷ ws) (v ∷ vs) g = (g.0.1, words ws vs g.1)

pub carried : (s : NumberSet) (vs : List Val) → Is (struct.row set-type.the_type) s vs → Fits s
carried s vs g =
    let f = g.1.1.0 in
    record { four = f.1.0.1; each = words s.words _ f.1.1 }
