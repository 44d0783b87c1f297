-- The places: of each link of a section that which the syntax gives it, and 0 past the last; and places by their numbers.
-- Assumes nothing.
use Prim.Native.Nat.{ℕ, zero, suc, ◌+◌, ◌-◌, ◌≤◌, ◌<◌}
use mathlib.Core.Path.{◌≡◌, refl, sym, ap, ◌∙◌}
use mathlib.Core.Logic.{◌≢◌}
use mathlib.Core.List.{List, [], ◌∷◌, ◌++◌}
use native.Mathlib.Nat.{not-suc-le-zero, le_of_suc-le-suc}
use native.Mathlib.Omega.{arith}
use lib.ListN.{length, get_or, take, set, replicate, length-append, length-replicate, get_or-eq_default}
use Rattle.length_field.specs.Lengths.{block_bytes}
use Rattle.link.specs.Syntax.{Link, entry_of}
use Rattle.rct.specs.Syntax.{head_length, Section, links_bytes, entry_place}
use Rattle.rct_edit.specs.Edit.{most_links}
use Rattle.rct_index.specs.Index.{entry_places, filled_places, place_in, index_of}
use Rattle.rct_index.specs.Editing.{by_number}

-- ---- filled up with zeros

zeros-at : (n i : ℕ) → ◌≡◌ {A = ℕ} (get_or (replicate n 0) i 0) 0
zeros-at zero i = refl
zeros-at (suc n) zero = refl
zeros-at (suc n) (suc i) = zeros-at n i

padded-at : (ps : List ℕ) (n i : ℕ) → get_or (ps ++ replicate n 0) i 0 ≡ get_or ps i 0
padded-at [] n i = zeros-at n i
padded-at (p ∷ ps) n zero = refl
padded-at (p ∷ ps) n (suc i) = padded-at ps n i

pub filled_at : (ps : List ℕ) (i : ℕ) → get_or (filled_places ps) i 0 ≡ get_or ps i 0
filled_at ps i = padded-at ps (most_links - length ps) i

pub length-filled : (ps : List ℕ) → length ps ≤ most_links → length (filled_places ps) ≡ most_links
length-filled ps h = omega (arith, length-append ps (replicate (most_links - length ps) 0), length-replicate {A = ℕ} (most_links - length ps) 0)

set-behind : (ps : List ℕ) (n q : ℕ) → set (ps ++ replicate (suc n) 0) (length ps) q ≡ (ps ++ q ∷ []) ++ replicate n 0
set-behind [] n q = refl
set-behind (p ∷ ps) n q = ap (λ (r : List ℕ). p ∷ r) (set-behind ps n q)

-- a place more
pub filled_more : (ps : List ℕ) (q : ℕ) → length ps < most_links → set (filled_places ps) (length ps) q ≡ filled_places (ps ++ q ∷ [])
filled_more ps q h =
    let one : most_links - length ps ≡ suc (most_links - length (ps ++ q ∷ [])) = omega (arith, length-append ps (q ∷ [])) in
    ap (λ n. set (ps ++ replicate n 0) (length ps) q) one ∙ set-behind ps (most_links - length (ps ++ q ∷ [])) q

-- past the last there is none, of any places
pub place_none : (ps : List ℕ) (k : ℕ) → length ps ≤ k → place_in ps k ≡ 0
place_none ps k h = get_or-eq_default ps 0 h

-- ---- the entries' places

pub length-places : (p : ℕ) (ls : List Link) → length (entry_places p ls) ≡ length ls
length-places p [] = refl
length-places p (l ∷ ls) = ap suc (length-places (p + length (block_bytes (entry_of l))) ls)

pub places-at : (p : ℕ) (ls : List Link) (k : ℕ) → k < length ls → get_or (entry_places p ls) k 0 ≡ p + length (links_bytes (take k ls))
places-at p [] k h = absurd (not-suc-le-zero h)
places-at p (l ∷ ls) zero h = omega arith
places-at p (l ∷ ls) (suc k) h =
    omega (arith, places-at (p + length (block_bytes (entry_of l))) ls k (le_of_suc-le-suc h), length-append (block_bytes (entry_of l)) (links_bytes (take k ls)))

pub places-past : (p : ℕ) (ls : List Link) (k : ℕ) → length ls ≤ k → get_or (entry_places p ls) k 0 ≡ 0
places-past p [] k h = refl
places-past p (l ∷ ls) zero h = absurd (not-suc-le-zero h)
places-past p (l ∷ ls) (suc k) h = places-past (p + length (block_bytes (entry_of l))) ls k (le_of_suc-le-suc h)

pub places-more : (p : ℕ) (ls : List Link) (l : Link) → entry_places p (ls ++ l ∷ []) ≡ entry_places p ls ++ (p + length (links_bytes ls)) ∷ []
places-more p [] l = let z : p + 0 ≡ p = omega arith in rw z
places-more p (m ∷ ls) l =
    let sum : p + length (block_bytes (entry_of m)) + length (links_bytes ls) ≡ p + length (links_bytes (m ∷ ls)) = omega (arith, length-append (block_bytes (entry_of m)) (links_bytes ls)) in
    ap (λ (r : List ℕ). p ∷ r) (places-more (p + length (block_bytes (entry_of m))) ls l ∙ ap (λ q. entry_places (p + length (block_bytes (entry_of m))) ls ++ q ∷ []) sum)

-- ---- in the index of a section

module _ (s : Section) where
  pub index-place : (k : ℕ) → k < length s.links → place_in (index_of s).places k ≡ entry_place s k
  unfolding index_of
  index-place k h = filled_at (entry_places head_length s.links) k ∙ places-at head_length s.links k h

  pub index-past : (k : ℕ) → length s.links ≤ k → place_in (index_of s).places k ≡ 0
  unfolding index_of
  index-past k h = filled_at (entry_places head_length s.links) k ∙ places-past head_length s.links k h

  pub index-length : length s.links ≤ most_links → length (index_of s).places ≡ most_links
  unfolding index_of
  index-length h = length-filled (entry_places head_length s.links) (omega (arith, length-places head_length s.links))

-- ---- by number

pub length-numbered : (f : ℕ → ℕ → ℕ) (j : ℕ) (ps : List ℕ) → length (by_number f j ps) ≡ length ps
length-numbered f j [] = refl
length-numbered f j (p ∷ ps) = ap suc (length-numbered f (suc j) ps)

numbered-in : (f : ℕ → ℕ → ℕ) (j : ℕ) (ps : List ℕ) (i : ℕ) → i < length ps → get_or (by_number f j ps) i 0 ≡ f (j + i) (get_or ps i 0)
numbered-in f j [] i h = absurd (not-suc-le-zero h)
numbered-in f j (p ∷ ps) zero h = let z : j ≡ j + 0 = omega arith in ap (λ n. f n p) z
numbered-in f j (p ∷ ps) (suc i) h = let z : suc j + i ≡ j + suc i = omega arith in numbered-in f (suc j) ps i (le_of_suc-le-suc h) ∙ ap (λ n. f n (get_or ps i 0)) z

pub numbered-at : (f : ℕ → ℕ → ℕ) (ps : List ℕ) (i : ℕ) → i < length ps → get_or (by_number f 0 ps) i 0 ≡ f i (get_or ps i 0)
numbered-at f ps i h = let z : 0 + i ≡ i = omega arith in numbered-in f 0 ps i h ∙ ap (λ n. f n (get_or ps i 0)) z

-- a list by numbers that is told in the same way from number m on is the same, and so is one that is told in no way
pub same-numbered : (f g : ℕ → ℕ → ℕ) (m : ℕ) (ps : List ℕ) → ((i p : ℕ) → m ≤ i → f i p ≡ g i p) → by_number f m ps ≡ by_number g m ps
same-numbered f g m [] e = refl
same-numbered f g m (p ∷ ps) e = λ i. e m p (omega arith) i ∷ same-numbered f g (suc m) ps (λ j q h. e j q (omega arith)) i

pub nothing-numbered : (m : ℕ) (ps : List ℕ) → by_number (λ j p. p) m ps ≡ ps
nothing-numbered m [] = refl
nothing-numbered m (p ∷ ps) = ap (λ (r : List ℕ). p ∷ r) (nothing-numbered (suc m) ps)

-- a place that stays, where there is one and where there is none
stays-in : (f : ℕ → ℕ → ℕ) (m : ℕ) (ps : List ℕ) (j : ℕ) → ((p : ℕ) → f (m + j) p ≡ p) → get_or (by_number f m ps) j 0 ≡ get_or ps j 0
stays-in f m [] j e = refl
stays-in f m (p ∷ ps) zero e = let z : m ≡ m + 0 = omega arith in ap (λ n. f n p) z ∙ e p
stays-in f m (p ∷ ps) (suc j) e = let z : suc m + j ≡ m + suc j = omega arith in stays-in f (suc m) ps j (λ q. ap (λ n. f n q) z ∙ e q)

pub stays_at : (f : ℕ → ℕ → ℕ) (ps : List ℕ) (j : ℕ) → ((p : ℕ) → f j p ≡ p) → get_or (by_number f 0 ps) j 0 ≡ get_or ps j 0
stays_at f ps j e = let z : 0 + j ≡ j = omega arith in stays-in f 0 ps j (λ p. ap (λ n. f n p) z ∙ e p)

-- a store at number j, where g tells j anew and all else as f does
store_in : (f g : ℕ → ℕ → ℕ) (m : ℕ) (ps : List ℕ) (j v : ℕ) → ((i p : ℕ) → i ≢ m + j → f i p ≡ g i p) → v ≡ g (m + j) (get_or ps j 0) → set (by_number f m ps) j v ≡ by_number g m ps
store_in f g m [] j v e w = refl
store_in f g m (p ∷ ps) zero v e w =
    let z : m + 0 ≡ m = omega arith in
    λ i. (w ∙ ap (λ n. g n p) z) i ∷ same-numbered f g (suc m) ps (λ j q h. e j q (λ d. omega arith)) i
store_in f g m (p ∷ ps) (suc j) v e w =
    let z : suc m + j ≡ m + suc j = omega arith in
    λ i. e m p (λ d. omega arith) i ∷ store_in f g (suc m) ps j v (λ k q d. e k q (λ c. d (c ∙ sym z))) (w ∙ ap (λ n. g n (get_or ps j 0)) (sym z)) i

pub store_at : (f g : ℕ → ℕ → ℕ) (ps : List ℕ) (j v : ℕ) → ((i p : ℕ) → i ≢ j → f i p ≡ g i p) → v ≡ g j (get_or ps j 0) → set (by_number f 0 ps) j v ≡ by_number g 0 ps
store_at f g ps j v e w =
    let z : j ≡ 0 + j = omega arith in
    store_in f g 0 ps j v (λ i p d. e i p (λ c. d (c ∙ z))) (w ∙ ap (λ n. g n (get_or ps j 0)) z)
