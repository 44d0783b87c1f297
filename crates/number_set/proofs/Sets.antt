-- A set and the list of its members: which bit a number is, the words there and back, and what one number told makes of a set.
-- A set made of a list is brought up with the list: one entry told anew, one entry more.
-- Assumes nothing.
use Prim.Native.Nat.{ℕ, zero, suc, ◌+◌, ◌*◌, ◌/◌, ◌%◌, ◌^◌, ◌≤◌, ◌<◌}
use mathlib.Core.Bool.{Bool, true, false}
use mathlib.Core.List.{List, [], ◌∷◌, ◌++◌, map, map-append}
use mathlib.Core.Path.{◌≡◌, refl, sym, ap, ◌∙◌}
use native.Mathlib.Nat.{div-add-mod', zero-div}
use native.Mathlib.Omega.{arith}
use lib.Dec.{eqb}
use lib.ListN.{length, get_or, drop, set, replicate, length-append, length-map, length-set, get_or-append, get_or-eq_default}
use lib.Seq.{drop-nil, take_at, drop_at, set-append_left, get_or-append-add}
use Rattle.wire.specs.Choice.{pick}
use Rattle.number_set.specs.declared.NumberSet.{NumberSet}
use Rattle.number_set.specs.Members.{width, many, size, bits, flags, words_of, members, is_member, of_members, padded, no_members, Words, Fits}
use Rattle.number_set.specs.Stages.{turn}
use Rattle.number_set.proofs.Bits.{length-bits, word-bits, bits_at, bits-padded, word-take-lt}

-- ---- words and their bits, one word after the other

length-flags : (ws : List ℕ) → length (flags ws) ≡ length ws * width
unfolding flags
length-flags [] = refl
length-flags (w ∷ ws) =
    let e = length-append (bits width w) (flags ws) in
    let b = length-bits width w in
    let r = length-flags ws in
    omega arith

words_flags : (ws : List ℕ) → Words ws → words_of (length ws) (flags ws) ≡ ws
unfolding flags words_of
words_flags [] h = refl
words_flags (w ∷ ws) h =
    rw (take_at (bits width w) (flags ws) width (length-bits width w), drop_at (bits width w) (flags ws) width (length-bits width w), word-bits width w h.0, words_flags ws h.1)

-- ---- one number: bit r of word j

set-append-add : {A : Type 0} (xs ys : List A) (i : ℕ) (a : A) → set (xs ++ ys) (length xs + i) a ≡ xs ++ set ys i a
set-append-add [] ys i a = let e : 0 + i ≡ i = omega arith in rw e
set-append-add (x ∷ xs) ys i a = let e : suc (length xs) + i ≡ suc (length xs + i) = omega arith in rw (e, set-append-add xs ys i a)

flags-at : (ws : List ℕ) (j r : ℕ) → r < width → get_or (flags ws) (j * width + r) false ≡ eqb (get_or ws j 0 / 2 ^ r % 2) 1
unfolding flags
flags-at [] j r h = let e : 0 / 2 ^ r ≡ 0 = zero-div (2 ^ r) in rw e
flags-at (w ∷ ws) zero r h =
    let e : 0 * 64 + r ≡ r = omega arith in
    ap (λ (k : ℕ). get_or (bits width w ++ flags ws) k false) e
    ∙ get_or-append (bits width w) (flags ws) false r (omega (arith, length-bits width w))
    ∙ bits_at width w r h
flags-at (w ∷ ws) (suc j) r h =
    let e : suc j * 64 + r ≡ length (bits width w) + (j * 64 + r) = omega (arith, length-bits width w) in
    ap (λ (k : ℕ). get_or (bits width w ++ flags ws) k false) e
    ∙ get_or-append-add (bits width w) (flags ws) (j * width + r) false
    ∙ flags-at ws j r h

words-set : (ws : List ℕ) (j r : ℕ) (b : Bool) → Words ws → j < length ws → r < width
    → words_of (length ws) (set (flags ws) (j * width + r) b) ≡ set ws j (turn (get_or ws j 0) r b)
unfolding flags words_of
words-set [] j r b f h l = absurd (omega arith)
words-set (w ∷ ws) zero r b f h l =
    let e : 0 * 64 + r ≡ r = omega arith in
    let s : set (bits width w ++ flags ws) (0 * width + r) b ≡ set (bits width w) r b ++ flags ws =
    ap (λ (k : ℕ). set (bits width w ++ flags ws) k b) e ∙ set-append_left (bits width w) (flags ws) r b (omega (arith, length-bits width w)) in
    let n : length (set (bits width w) r b) ≡ width = length-set (bits width w) r b ∙ length-bits width w in
    rw (s, take_at (set (bits width w) r b) (flags ws) width n, drop_at (set (bits width w) r b) (flags ws) width n, words_flags ws f.1)
words-set (w ∷ ws) (suc j) r b f h l =
    let e : suc j * 64 + r ≡ length (bits width w) + (j * 64 + r) = omega (arith, length-bits width w) in
    let s : set (bits width w ++ flags ws) (suc j * width + r) b ≡ bits width w ++ set (flags ws) (j * width + r) b =
    ap (λ (k : ℕ). set (bits width w ++ flags ws) k b) e ∙ set-append-add (bits width w) (flags ws) (j * width + r) b in
    let n = length-bits width w in
    rw (s, take_at (bits width w) (set (flags ws) (j * width + r) b) width n, drop_at (bits width w) (set (flags ws) (j * width + r) b) width n, word-bits width w f.0, words-set ws j r b f.1 (omega arith) l)

-- ---- sets

many-of : (n : ℕ) (l : List Bool) → length (words_of n l) ≡ n
unfolding words_of
many-of zero l = refl
many-of (suc n) l = ap suc (many-of n (drop width l))

each_of : (n : ℕ) (l : List Bool) → Words (words_of n l)
unfolding words_of
each_of zero l = tt
each_of (suc n) l = (word-take-lt width l, each_of n (drop width l))

-- a set made of a list is one that the code's type has
pub of-fits : (l : List Bool) → Fits (of_members l)
unfolding of_members
of-fits l = record { four = many-of many l; each = each_of many l }

pub length-members : (s : NumberSet) → Fits s → length (members s) ≡ size
unfolding members
length-members s f = let e = length-flags s.words in let g = f.four in omega arith

-- **number k is bit k % 64 of word k / 64**
pub members-at : (s : NumberSet) (k : ℕ) → is_member s k ≡ eqb (get_or s.words (k / width) 0 / 2 ^ (k % width) % 2) 1
unfolding members
members-at s k =
    let e : k / 64 * 64 + k % 64 ≡ k = div-add-mod' k 64 in
    ap (λ (i : ℕ). get_or (flags s.words) i false) (sym e) ∙ flags-at s.words (k / width) (k % width) (omega arith)

-- **and past the last number none is a member**
pub members-past : (s : NumberSet) (k : ℕ) → Fits s → size ≤ k → is_member s k ≡ false
members-past s k f h = get_or-eq_default (members s) false (omega (arith, length-members s f))

made : {ws us : List ℕ} → ws ≡ us → ◌≡◌ {A = NumberSet} (record { words = ws }) (record { words = us })
made e i = record { words = e i }

-- a set is the set of its members
pub of-members : (s : NumberSet) → Fits s → of_members (members s) ≡ s
unfolding members of_members
of-members s f = made (ap (λ (n : ℕ). words_of n (flags s.words)) (sym f.four) ∙ words_flags s.words f.each)

-- so sets with the same members are the same words
pub same-members : (s t : NumberSet) → Fits s → Fits t → members s ≡ members t → s ≡ t
same-members s t f g e = sym (of-members s f) ∙ ap of_members e ∙ of-members t g

-- ---- a set made of a list: what the list lacks is no member

padded-past : (n m : ℕ) (l : List Bool) → padded (n + m) l ≡ padded n l ++ padded m (drop n l)
unfolding padded
padded-past zero m l = let e : 0 + m ≡ m = omega arith in rw e
padded-past (suc n) m [] = let e : suc n + m ≡ suc (n + m) = omega arith in rw (e, padded-past n m [], drop-nil n)
padded-past (suc n) m (b ∷ l) = let e : suc n + m ≡ suc (n + m) = omega arith in rw (e, padded-past n m l)

padded-zero : (l : List Bool) → padded 0 l ≡ []
unfolding padded
padded-zero l = refl

flags-padded : (n : ℕ) (l : List Bool) → flags (words_of n l) ≡ padded (n * width) l
unfolding flags words_of
flags-padded zero l = sym (padded-zero l)
flags-padded (suc n) l =
    let e : 64 + n * 64 ≡ suc n * 64 = omega arith in
    ap (λ (x : List Bool). x ++ flags (words_of n (drop width l))) (bits-padded width l)
    ∙ ap (λ (x : List Bool). padded width l ++ x) (flags-padded n (drop width l))
    ∙ sym (padded-past width (n * width) l)
    ∙ ap (λ (k : ℕ). padded k l) e

pub members-padded : (l : List Bool) → members (of_members l) ≡ padded size l
unfolding members of_members
members-padded l = flags-padded many l

padded-whole : (n : ℕ) (l : List Bool) → length l ≡ n → padded n l ≡ l
unfolding padded
padded-whole zero [] h = refl
padded-whole zero (b ∷ l) h = absurd (omega arith)
padded-whole (suc n) [] h = absurd (omega arith)
padded-whole (suc n) (b ∷ l) h = ap (λ (x : List Bool). b ∷ x) (padded-whole n l (omega arith))

pub members-of : (l : List Bool) → length l ≡ size → members (of_members l) ≡ l
members-of l h = members-padded l ∙ padded-whole size l h

of-padded : (l : List Bool) → of_members (padded size l) ≡ of_members l
of-padded l = ap of_members (sym (members-padded l)) ∙ of-members (of_members l) (of-fits l)

padded-none : (n : ℕ) → padded n [] ≡ replicate n false
unfolding padded
padded-none zero = refl
padded-none (suc n) = ap (λ (x : List Bool). false ∷ x) (padded-none n)

padded-set : (n : ℕ) (l : List Bool) (k : ℕ) (b : Bool) → k < length l → set (padded n l) k b ≡ padded n (set l k b)
unfolding padded
padded-set zero l k b h = refl
padded-set (suc n) [] k b h = absurd (omega arith)
padded-set (suc n) (a ∷ l) zero b h = refl
padded-set (suc n) (a ∷ l) (suc k) b h = ap (λ (x : List Bool). a ∷ x) (padded-set n l k b (omega arith))

padded-more : (n : ℕ) (l : List Bool) (b : Bool) → length l < n → set (padded n l) (length l) b ≡ padded n (l ++ b ∷ [])
unfolding padded
padded-more zero l b h = absurd (omega arith)
padded-more (suc n) [] b h = refl
padded-more (suc n) (a ∷ l) b h = ap (λ (x : List Bool). a ∷ x) (padded-more n l b (omega arith))

pub of_none : of_members no_members ≡ of_members []
unfolding no_members
of_none = ap of_members (sym (padded-none size)) ∙ of-padded []

padded-at : (n : ℕ) (l : List Bool) (k : ℕ) → length l ≤ n → get_or (padded n l) k false ≡ get_or l k false
unfolding padded
padded-at zero [] k h = refl
padded-at zero (b ∷ l) k h = absurd (omega arith)
padded-at (suc n) [] zero h = refl
padded-at (suc n) [] (suc k) h = padded-at n [] k (omega arith)
padded-at (suc n) (b ∷ l) zero h = refl
padded-at (suc n) (b ∷ l) (suc k) h = padded-at n l k (omega arith)

-- whether a number is a member, whichever number is asked for
pub of_at : (l : List Bool) (k : ℕ) → length l ≤ size → get_or (members (of_members l)) k false ≡ get_or l k false
of_at l k h = ap (λ (x : List Bool). get_or x k false) (members-padded l) ∙ padded-at size l k h

-- an entry of the list told anew
pub of-set : (l : List Bool) (k : ℕ) (b : Bool) → k < length l → of_members (set (members (of_members l)) k b) ≡ of_members (set l k b)
of-set l k b h =
    ap (λ (x : List Bool). of_members (set x k b)) (members-padded l) ∙ ap of_members (padded-set size l k b h) ∙ of-padded (set l k b)

-- an entry more at the end
pub of-more : (l : List Bool) (b : Bool) → length l < size → of_members (set (members (of_members l)) (length l) b) ≡ of_members (l ++ b ∷ [])
of-more l b h =
    ap (λ (x : List Bool). of_members (set x (length l) b)) (members-padded l) ∙ ap of_members (padded-more size l b h) ∙ of-padded (l ++ b ∷ [])

-- the same where the list tells which of some records have a property: record k is another one, and there is a record more
map-set : {A : Type 0} (f : A → Bool) (xs : List A) (k : ℕ) (a : A) → map f (set xs k a) ≡ set (map f xs) k (f a)
map-set f [] k a = refl
map-set f (x ∷ xs) zero a = refl
map-set f (x ∷ xs) (suc k) a = ap (λ (l : List Bool). f x ∷ l) (map-set f xs k a)

pub of-map-set : {A : Type 0} (f : A → Bool) (xs : List A) (k : ℕ) (a : A) → k < length xs
    → of_members (set (members (of_members (map f xs))) k (f a)) ≡ of_members (map f (set xs k a))
of-map-set f xs k a h = of-set (map f xs) k (f a) (omega (arith, length-map xs f)) ∙ ap of_members (sym (map-set f xs k a))

pub of-map-more : {A : Type 0} (f : A → Bool) (xs : List A) (a : A) → length xs < size
    → of_members (set (members (of_members (map f xs))) (length xs) (f a)) ≡ of_members (map f (xs ++ a ∷ []))
of-map-more f xs a h =
    ap (λ (n : ℕ). of_members (set (members (of_members (map f xs))) n (f a))) (sym (length-map xs f))
    ∙ of-more (map f xs) (f a) (omega (arith, length-map xs f))
    ∙ ap of_members (sym (map-append f xs (a ∷ [])))

-- ---- the members of what the calls answer

pub members-none : members (of_members no_members) ≡ no_members
unfolding no_members
members-none = members-of no_members refl

pub members-with : (s : NumberSet) (k : ℕ) (b : Bool) → Fits s → members (of_members (set (members s) k b)) ≡ set (members s) k b
members-with s k b f = members-of (set (members s) k b) (length-set (members s) k b ∙ length-members s f)

pub members_only : (k : ℕ) → members (of_members (set no_members k true)) ≡ set no_members k true
unfolding no_members
members_only k = members-of (set no_members k true) (length-set no_members k true)

-- ---- the code's way: each word is told by itself

abbrev pub told : ℕ → ℕ → ℕ → ℕ → Bool → ℕ
told j r w i b = pick (eqb j i) (turn w r b) w

told-words : (ws : List ℕ) (j r : ℕ) (b : Bool) → length ws ≡ many → j < many
    → told j r (get_or ws 0 0) 0 b ∷ told j r (get_or ws 1 0) 1 b ∷ told j r (get_or ws 2 0) 2 b ∷ told j r (get_or ws 3 0) 3 b ∷ [] ≡ set ws j (turn (get_or ws j 0) r b)
told-words [] j r b e h = absurd (omega arith)
told-words (w ∷ []) j r b e h = absurd (omega arith)
told-words (w ∷ x ∷ []) j r b e h = absurd (omega arith)
told-words (w ∷ x ∷ y ∷ []) j r b e h = absurd (omega arith)
told-words (w ∷ x ∷ y ∷ z ∷ []) zero r b e h = refl
told-words (w ∷ x ∷ y ∷ z ∷ []) (suc zero) r b e h = refl
told-words (w ∷ x ∷ y ∷ z ∷ []) (suc (suc zero)) r b e h = refl
told-words (w ∷ x ∷ y ∷ z ∷ []) (suc (suc (suc zero))) r b e h = refl
told-words (w ∷ x ∷ y ∷ z ∷ []) (suc (suc (suc (suc j)))) r b e h = absurd (omega arith)
told-words (w ∷ x ∷ y ∷ z ∷ v ∷ ws) j r b e h = absurd (omega arith)

pub with-words : (s : NumberSet) (k : ℕ) (b : Bool) (w x y z : ℕ) → Fits s → k < size
    → w ≡ told (k / width) (k % width) (get_or s.words 0 0) 0 b
    → x ≡ told (k / width) (k % width) (get_or s.words 1 0) 1 b
    → y ≡ told (k / width) (k % width) (get_or s.words 2 0) 2 b
    → z ≡ told (k / width) (k % width) (get_or s.words 3 0) 3 b
    → ◌≡◌ {A = NumberSet} (record { words = w ∷ x ∷ y ∷ z ∷ [] }) (of_members (set (members s) k b))
unfolding members of_members
with-words s k b w x y z f h p q r t =
    let e : k / 64 * 64 + k % 64 ≡ k = div-add-mod' k 64 in
    let g = f.four in
    let v : w ∷ x ∷ y ∷ z ∷ [] ≡ set s.words (k / width) (turn (get_or s.words (k / width) 0) (k % width) b) =
    rw (p, q, r, t) (told-words s.words (k / width) (k % width) b g (omega arith)) in
    made (v
    ∙ sym (words-set s.words (k / width) (k % width) b f.each (omega arith) (omega arith))
    ∙ ap (λ (n : ℕ). words_of n (set (flags s.words) (k / width * width + k % width) b)) g
    ∙ ap (λ (i : ℕ). words_of many (set (flags s.words) i b)) e)
