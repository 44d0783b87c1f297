-- Which numbers a verdict can answer at all: those of a list.
-- Assumes nothing.
use Prim.Native.Nat.{ℕ}
use mathlib.Core.Path.{◌≡◌, refl, sym, ap, ◌∙◌}
use mathlib.Core.Logic.{◌⊎◌, inl, inr}
use mathlib.Core.Bool.{Bool, true, false}
use mathlib.Core.List.{List, [], ◌∷◌}
use native.Mathlib.Omega.{arith}
use lib.Dec.{eqb}
use borrow.Author.Tests.{eqb-true, eq-eqb}
use Rattle.wire.specs.Choice.{pick}
use Rattle.wire.specs.Verdict.{bad, refuse, ◌▷◌, Fine, Verdict}
use Rattle.wire.specs.declared.verdict.Refusal.{Refusal}
use Rattle.std.specs.Prelude.{Err, Ok}

-- n is on the list; all of one list are on another
abbrev pub listed : ℕ → List ℕ → Bool
listed n [] = false
listed n (m ∷ ms) = pick (eqb n m) true (listed n ms)

abbrev pub all_listed : List ℕ → List ℕ → Bool
all_listed [] ms = true
all_listed (n ∷ ns) ms = pick (listed n ms) (all_listed ns ms) false

-- of a list whose numbers are not known
pub listed_here : (n : ℕ) (ms : List ℕ) → listed n (n ∷ ms) ≡ true
listed_here n ms = rw (eq-eqb n n refl)

pub listed-behind : (n m : ℕ) (ms : List ℕ) → listed n ms ≡ true → listed n (m ∷ ms) ≡ true
listed-behind n m ms h = by (eqb n m)
  where
    by : (b : Bool) → pick b true (listed n ms) ≡ true
    by true = refl
    by false = h

-- if it refuses, then with a number of the list
abbrev pub Among : List ℕ → Verdict → Type 0
Among ns v = (r : Refusal) → v ≡ Err r → listed r.number ns ≡ true

both_true : (b c : Bool) → pick b c false ≡ true → (b ≡ true) × (c ≡ true)
both_true true c e = (refl, e)
both_true false c e = let z : ◌≡◌ {A = ℕ} 0 1 = cc in absurd (omega arith)

pub listed_more : (ns ms : List ℕ) (n : ℕ) → all_listed ns ms ≡ true → listed n ns ≡ true → listed n ms ≡ true
listed_more [] ms n a e = let z : ◌≡◌ {A = ℕ} 0 1 = cc in absurd (omega arith)
listed_more (m ∷ ns) ms n a e =
    let two = both_true (listed m ms) (all_listed ns ms) a in
    by (eqb n m) refl e two.0 (λ l. listed_more ns ms n two.1 l)
  where
    by : (b : Bool) → eqb n m ≡ b → pick b true (listed n ns) ≡ true → listed m ms ≡ true → (listed n ns ≡ true → listed n ms ≡ true) → listed n ms ≡ true
    by true q t h f = ap (λ k. listed k ms) (eqb-true n m q) ∙ h
    by false q t h f = f t

pub among-fine : (ns : List ℕ) → Among ns Fine
among-fine ns r e = let z : ◌≡◌ {A = ℕ} 0 1 = cc in absurd (omega arith)

number_of : (r q : Refusal) → ◌≡◌ {A = Verdict} (Err r) (Err q) → r.number ≡ q.number
number_of r q e = cc

pub among-row : (ns : List ℕ) (b : Bool) (n f g : ℕ) → listed n ns ≡ true → Among ns (refuse b n f g)
unfolding refuse
among-row ns true n f g h r e = ap (λ k. listed k ns) (sym (number_of _ r e)) ∙ h
among-row ns false n f g h r e = among-fine ns r e

pub among_then : (ns : List ℕ) (v w : Verdict) → Among ns v → Among ns w → Among ns (v ▷ w)
unfolding ◌▷◌
among_then ns (Ok _) w p q = q
among_then ns (Err r) w p q = p

pub among-more : (ns ms : List ℕ) (v : Verdict) → all_listed ns ms ≡ true → Among ns v → Among ms v
among-more ns ms v a p r e = listed_more ns ms r.number a (p r e)

-- ---- what is not on the list is never the answer

abbrev pub Never : ℕ → Verdict → Type 0
Never n v = (f g : ℕ) → v ≡ bad n f g → ⊥

pub among-never : (ns : List ℕ) (v : Verdict) (n : ℕ) → Among ns v → listed n ns ≡ false → Never n v
among-never ns v n p a f g e =
    let t : listed n ns ≡ true = p _ e in
    let z : ◌≡◌ {A = ℕ} 0 1 = cc in
    omega arith

-- as a row of another number
pub row-never : (n m : ℕ) (b : Bool) (f g : ℕ) → listed n (m ∷ []) ≡ false → Never n (refuse b m f g)
row-never n m b f g h = among-never (m ∷ []) _ n (among-row (m ∷ []) b m f g (listed_here m [])) h

pub never-then : (n : ℕ) (v w : Verdict) → Never n v → Never n w → Never n (v ▷ w)
unfolding ◌▷◌
never-then n (Ok _) w p q = q
never-then n (Err r) w p q = p

-- of a refusal by a number, rows that never answer it: those before it were passed, those behind it count for nothing
module _ (n f g : ℕ) where
  pub never-past : (v w : Verdict) → Never n v → v ▷ w ≡ bad n f g → (v ≡ Fine) × (w ≡ bad n f g)
  unfolding ◌▷◌
  never-past (Ok _) w p e = (refl, e)
  never-past (Err r) w p e = absurd (p f g e)

  pub never-behind : (v w : Verdict) → Never n w → v ▷ w ≡ bad n f g → v ≡ bad n f g
  unfolding ◌▷◌
  never-behind (Ok _) w p e = absurd (p f g e)
  never-behind (Err r) w p e = e

  -- of rows that both may answer it: the first does, or is passed and the second does
  pub either-row : (v w : Verdict) → v ▷ w ≡ bad n f g → (v ≡ bad n f g) ⊎ ((v ≡ Fine) × (w ≡ bad n f g))
  unfolding ◌▷◌
  either-row (Ok _) w e = inr (refl, e)
  either-row (Err r) w e = inl e

-- two lists that share no number
abbrev pub all_apart : List ℕ → List ℕ → Bool
all_apart [] ms = true
all_apart (n ∷ ns) ms = pick (listed n ms) false (all_apart ns ms)

pub listed-apart : (ns ms : List ℕ) (n : ℕ) → all_apart ns ms ≡ true → listed n ns ≡ true → listed n ms ≡ false
listed-apart [] ms n a e = let z : ◌≡◌ {A = ℕ} 0 1 = cc in absurd (omega arith)
listed-apart (m ∷ ns) ms n a e = by (eqb n m) (listed m ms) refl refl a e (λ b l. listed-apart ns ms n b l)
  where
    by : (b c : Bool) → eqb n m ≡ b → listed m ms ≡ c → pick c false (all_apart ns ms) ≡ true → pick b true (listed n ns) ≡ true
        → (all_apart ns ms ≡ true → listed n ns ≡ true → listed n ms ≡ false) → listed n ms ≡ false
    by b true q r s t f = let z : ◌≡◌ {A = ℕ} 0 1 = cc in absurd (omega arith)
    by true false q r s t f = ap (λ k. listed k ms) (eqb-true n m q) ∙ r
    by false false q r s t f = f s t
