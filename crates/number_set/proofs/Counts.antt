-- How many members there are: what one number told changes, the most there can be, and when all numbers below n are members.
-- That they are the ones in the words is a law of number_count.
-- Assumes nothing.
use Prim.Native.Nat.{ℕ, zero, suc, ◌+◌, ◌≤◌, ◌<◌}
use mathlib.Core.Bool.{Bool, true, false}
use mathlib.Core.List.{List, [], ◌∷◌, ◌++◌}
use mathlib.Core.Path.{◌≡◌, refl, sym, ap, ◌∙◌}
use native.Mathlib.Omega.{arith}
use lib.ListN.{length, get_or, set, replicate, length-replicate}
use lib.Seq.{set-get_or, get_or-set_other}
use Rattle.wire.specs.Choice.{bit}
use Rattle.number_set.specs.declared.NumberSet.{NumberSet}
use Rattle.number_set.specs.Members.{size, members, of_members, padded, no_members, trues, Fits, Below, Filled}
use Rattle.number_set.proofs.Sets.{length-members, members-padded}

bit_le : (b : Bool) → bit b ≤ 1
bit_le true = omega arith
bit_le false = omega arith

pub trues-append : (l m : List Bool) → trues (l ++ m) ≡ trues l + trues m
unfolding trues
trues-append [] m = omega arith
trues-append (b ∷ l) m = let e = trues-append l m in omega arith

-- at most all
pub trues-le : (l : List Bool) → trues l ≤ length l
unfolding trues
trues-le [] = omega arith
trues-le (b ∷ l) = let e = trues-le l in let h = bit_le b in omega arith

trues-none : (n : ℕ) → trues (replicate n false) ≡ 0
unfolding trues
trues-none zero = refl
trues-none (suc n) = let e = trues-none n in omega arith

-- ---- one entry told anew: one more, one less or as many

pub trues-set : (l : List Bool) (k : ℕ) (b : Bool) → k < length l → trues (set l k b) + bit (get_or l k false) ≡ trues l + bit b
unfolding trues
trues-set [] k b h = absurd (omega arith)
trues-set (a ∷ l) zero b h = omega arith
trues-set (a ∷ l) (suc k) b h = let e = trues-set l k b (omega arith) in omega arith

-- as it was already
pub no_change : (l : List Bool) (k : ℕ) (b : Bool) → get_or l k false ≡ b → set l k b ≡ l
no_change l k b e = ap (set l k) (sym e) ∙ set-get_or l k false

-- ---- all of the first n

nowhere : (n k : ℕ) → get_or (replicate n false) k false ≡ false
nowhere zero k = refl
nowhere (suc n) zero = refl
nowhere (suc n) (suc k) = nowhere n k

-- that all members are below n holds of the empty set, and stays so while numbers below n are told
pub below_none : (n : ℕ) → Below n no_members
unfolding no_members
below_none n k h = nowhere size k

pub below_set : (l : List Bool) (n k : ℕ) (b : Bool) → Below n l → k < n → Below n (set l k b)
below_set l n k b h g i j = get_or-set_other l k i b false (λ e. omega arith) ∙ h i j

-- then there are at most n
pub below-le : (l : List Bool) (n : ℕ) → Below n l → trues l ≤ n
unfolding trues
below-le [] n h = omega arith
below-le (b ∷ l) zero h =
    let e = below-le l zero (λ k g. h (suc k) (omega arith)) in
    let z = ap bit (h 0 (omega arith)) in
    omega arith
below-le (b ∷ l) (suc n) h =
    let e = below-le l n (λ k g. h (suc k) (omega arith)) in
    let z = bit_le b in
    omega arith

bit-one : (b : Bool) → bit b ≡ 1 → b ≡ true
bit-one true e = refl
bit-one false e = absurd (omega arith)

-- **as many as there can be are all of them**
pub full : (l : List Bool) (n : ℕ) → Below n l → trues l ≡ n → Filled n l
unfolding trues
full [] n h e k g = absurd (omega arith)
full (b ∷ l) zero h e k g = absurd (omega arith)
full (b ∷ l) (suc n) h e zero g =
    let m = below-le l n (λ i j. h (suc i) (omega arith)) in
    let z = bit_le b in
    bit-one b (omega arith)
full (b ∷ l) (suc n) h e (suc k) g =
    let m = below-le l n (λ i j. h (suc i) (omega arith)) in
    let z = bit_le b in
    full l n (λ i j. h (suc i) (omega arith)) (omega arith) k (omega arith)

-- **and back**
pub full_back : (l : List Bool) (n : ℕ) → Below n l → Filled n l → trues l ≡ n
unfolding trues
full_back [] zero h f = refl
full_back [] (suc n) h f = let z : ◌≡◌ {A = ℕ} 0 1 = cc (f 0 (omega arith)) in absurd (omega arith)
full_back (b ∷ l) zero h f =
    let e = full_back l zero (λ k g. h (suc k) (omega arith)) (λ k g. absurd (omega arith)) in
    let z = ap bit (h 0 (omega arith)) in
    omega arith
full_back (b ∷ l) (suc n) h f =
    let e = full_back l n (λ k g. h (suc k) (omega arith)) (λ k g. f (suc k) (omega arith)) in
    let z = ap bit (f 0 (omega arith)) in
    omega arith

-- ---- sets

pub count-le : (s : NumberSet) → Fits s → trues (members s) ≤ size
count-le s f = let e = trues-le (members s) in let n = length-members s f in omega arith

pub count_none : trues no_members ≡ 0
unfolding no_members
count_none = trues-none size

pub count-only : (k : ℕ) → k < size → trues (set no_members k true) ≡ 1
unfolding no_members
count-only k h =
    let n = length-replicate size false in
    let t = trues-set (replicate size false) k true (omega arith) in
    let z = ap bit (nowhere size k) in
    omega (arith, trues-none size)

trues-padded : (n : ℕ) (l : List Bool) → length l ≤ n → trues (padded n l) ≡ trues l
unfolding trues padded
trues-padded zero [] h = refl
trues-padded zero (b ∷ l) h = absurd (omega arith)
trues-padded (suc n) [] h = let e = trues-padded n [] (omega arith) in omega arith
trues-padded (suc n) (b ∷ l) h = let e = trues-padded n l (omega arith) in omega arith

-- the set of a list has as many members as the list has trues
pub count_of : (l : List Bool) → length l ≤ size → trues (members (of_members l)) ≡ trues l
count_of l h = ap trues (members-padded l) ∙ trues-padded size l h
