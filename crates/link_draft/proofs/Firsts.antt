-- The first of a list that is refused: what a row of verdicts says of it, and that it is what the row answers.
-- Assumes nothing.
use Prim.Native.Nat.{ℕ}
use mathlib.Core.Path.{◌≡◌, refl, sym, ap, ◌∙◌}
use mathlib.Core.Bool.{Bool, true, false}
use mathlib.Core.List.{List, [], ◌∷◌, ◌++◌, map}
use native.Mathlib.Omega.{arith}
use Rattle.wire.specs.Verdict.{bad, refuse, ◌▷◌, Fine, Verdict}
use Rattle.wire.specs.declared.verdict.Refusal.{Refusal}
use Rattle.wire.proofs.Among.{listed, Among, Never, never-past, never-behind}
use Rattle.wire.proofs.Verdicts.{row-says, then-assoc, go_on, refused-then}
use Rattle.link_draft.specs.Checks.{first_in}
use Rattle.link_draft.specs.Carried.{Each}
use Rattle.link_draft.proofs.Rows.{each-pass}
use Rattle.std.specs.Prelude.{Err, Ok}

-- ---- one row

pub row-refuses : (b : Bool) (n f g : ℕ) → (refuse b n f g ≡ Fine → ⊥) → refuse b n f g ≡ bad n f g
unfolding refuse
row-refuses true n f g h = refl
row-refuses false n f g h = absurd (h refl)

-- ---- rows that answer one number alone

abbrev pub Only : ℕ → Verdict → Type 0
Only n v = (m f g : ℕ) → v ≡ bad m f g → m ≡ n

pub only-fine : (n : ℕ) → Only n Fine
only-fine n m f g e = let z : ◌≡◌ {A = ℕ} 0 1 = cc in absurd (omega arith)

pub only_row : (b : Bool) (n f g : ℕ) → Only n (refuse b n f g)
only_row b n f g m p q e = sym (row-says b n f g m p q e).0

pub only_then : (n : ℕ) (v w : Verdict) → Only n v → Only n w → Only n (v ▷ w)
unfolding ◌▷◌
only_then n (Ok _) w p q = q
only_then n (Err r) w p q = p

pub only-first : {A : Type 0} (n : ℕ) (f : A → Verdict) → ((x : A) → Only n (f x)) → (xs : List A) → Only n (first_in f xs)
unfolding first_in
only-first n f o [] = only-fine n
only-first n f o (x ∷ xs) = only_then n (f x) (first_in f xs) (o x) (only-first n f o xs)

pub only-listed : (ns : List ℕ) (n : ℕ) (v : Verdict) → listed n ns ≡ true → Only n v → Among ns v
only-listed ns n v h o r e = ap (λ m. listed m ns) (o r.number r.first r.second e) ∙ h

-- of a refusal by the number m, rows that answer n alone: before it they were passed, between and behind they count for nothing
module _ (n m f g : ℕ) (other : m ≡ n → ⊥) where
  only-never : (v : Verdict) → Only n v → Never m v
  only-never v o p q e = other (o m p q e)

  pub only-past : (v w : Verdict) → Only n v → v ▷ w ≡ bad m f g → (v ≡ Fine) × (w ≡ bad m f g)
  only-past v w o = never-past m f g v w (only-never v o)

  pub only-between : (u v w : Verdict) → Only n v → u ▷ v ▷ w ≡ bad m f g → u ▷ w ≡ bad m f g
  unfolding ◌▷◌
  only-between (Ok _) v w o e = (only-past v w o e).1
  only-between (Err r) v w o e = e

  pub only-behind : (v w : Verdict) → Only n w → v ▷ w ≡ bad m f g → v ≡ bad m f g
  only-behind v w o = never-behind m f g v w (only-never w o)

-- ---- a list of rows

module _ {A : Type 0} (f : A → Verdict) where
  pub first-append : (xs ys : List A) → first_in f (xs ++ ys) ≡ first_in f xs ▷ first_in f ys
  unfolding first_in ◌▷◌
  first-append [] ys = refl
  first-append (x ∷ xs) ys = rw (first-append xs ys) (sym (then-assoc (f x) (first_in f xs) (first_in f ys)))

  pub first-map : {B : Type 0} (h : B → A) (xs : List B) → first_in f (map h xs) ≡ first_in (λ x. f (h x)) xs
  unfolding first_in
  first-map h [] = refl
  first-map h (x ∷ xs) = ap (λ v. f (h x) ▷ v) (first-map h xs)

-- x is the first of xs that is not P
pub record First {A : Type 0} (P : A → Type 0) (xs : List A) (x : A) : Type 0 where
  pub before : List A
  pub behind : List A
  pub order : xs ≡ before ++ x ∷ behind
  pub good : Each P before
  pub bad : P x → ⊥

-- the first that is not P is what a row tells that refuses just those
pub record FirstTold {A : Type 0} (P : A → Type 0) (f : A → Verdict) (xs : List A) (v : Verdict) : Type 0 where
  pub it : A
  pub first : First P xs it
  pub told : f it ≡ v

module _ {A : Type 0} {P : A → Type 0} (f : A → Verdict) (passed : (x : A) → f x ≡ Fine → P x) (pass : (x : A) → P x → f x ≡ Fine) where
  refused-not : (x : A) (r : Refusal) → f x ≡ Err r → P x → ⊥
  refused-not x r e p = let q = pass x p in let z : ◌≡◌ {A = ℕ} 0 1 = cc in omega arith

  told-past : (x : A) (xs : List A) (v : Verdict) → f x ≡ Fine → FirstTold P f xs v → FirstTold P f (x ∷ xs) v
  told-past x xs v e t =
      let g = t.first in
      record {
        it = t.it;
        first = record { before = x ∷ g.before; behind = g.behind; order = ap (λ l. x ∷ l) g.order; good = (passed x e, g.good); bad = g.bad };
        told = t.told;
      }

  pub first-told : (xs : List A) (r : Refusal) → first_in f xs ≡ Err r → FirstTold P f xs (Err r)
  unfolding first_in ◌▷◌
  first-told [] r e = let z : ◌≡◌ {A = ℕ} 0 1 = cc in absurd (omega arith)
  first-told (x ∷ xs) r e = by (f x) refl e (λ q. first-told xs r q)
    where
      by : (v : Verdict) → f x ≡ v → v ▷ first_in f xs ≡ Err r → (first_in f xs ≡ Err r → FirstTold P f xs (Err r)) → FirstTold P f (x ∷ xs) (Err r)
      by (Ok _) p q rest = told-past x xs (Err r) p (rest q)
      by (Err s) p q rest = record { it = x; first = record { before = []; behind = xs; order = refl; good = tt; bad = refused-not x s p }; told = p ∙ q }

  pub first-tells : (xs : List A) (x : A) (r : Refusal) → First P xs x → f x ≡ Err r → first_in f xs ≡ Err r
  unfolding first_in
  first-tells xs x r g e =
      ap (first_in f) g.order
      ∙ first-append f g.before (x ∷ g.behind)
      ∙ go_on _ _ (each-pass f pass g.before g.good)
      ∙ refused-then _ _ r e
