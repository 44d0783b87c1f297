-- An index that was the old section's, brought up with a link put in or a link more, is the new section's.
-- Assumes nothing.
use Prim.Native.Nat.{ℕ, zero, suc, ◌+◌, ◌-◌, ◌≤◌, ◌<◌, max}
use mathlib.Core.Path.{◌≡◌, refl, sym, ap, ◌∙◌}
use mathlib.Core.Logic.{◌≢◌}
use mathlib.Core.Bool.{Bool, true, false}
use mathlib.Core.List.{List, [], ◌∷◌}
use native.Mathlib.Nat.{not-suc-le-zero, le_of_suc-le-suc}
use native.Mathlib.Omega.{arith}
use lib.Dec.{eqb, ltb}
use lib.ListN.{length, get_or, take, set, length-append, length-set}
use lib.Seq.{ext_get_or, take-set-le, take-append-le}
use borrow.Author.Tests.{eq-eqb, ne_eqb, lt-ltb, le-ltb, eqb-true, eqb-false, ltb-true, ltb-false}
use Rattle.length_field.specs.Lengths.{Block, block_bytes}
use Rattle.descriptors.specs.Reading.{descriptors_of}
use Rattle.link.specs.Syntax.{Link, entry_of}
use Rattle.rct.specs.Syntax.{head_length, Section, links_bytes, section_length, full_length, entry_place}
use Rattle.rct.proofs.Accepted.{length-payload}
use Rattle.rct_edit.specs.Edit.{most_links, with_links, with_link, with_next}
use Rattle.rct_edit.proofs.Records.{length-with, length-next}
use Rattle.rct_index.specs.Index.{link_marks, sets_of, with_marks, index_of}
use Rattle.rct_index.specs.Editing.{turns, moved_place, new_place, by_number, told_anew, index_with}
use Rattle.rct_index.proofs.Members.{sets-with, sets_more}
use Rattle.rct_index.proofs.Places.{index-place, index-past, index-length, length-numbered, numbered-at}

-- ---- what becomes of a place, case by case

module _ (k n q old new j p : ℕ) where
  pub place-named : j ≡ k → new_place k n q old new j p ≡ q
  unfolding new_place
  place-named e = rw (eq-eqb j k e)

  pub place-later : k < j → j < n → new_place k n q old new j p ≡ moved_place old new p
  unfolding new_place
  place-later g h = rw (ne_eqb j k (λ e. omega arith), lt-ltb k j g, lt-ltb j n h)

  pub place-before : j < k → new_place k n q old new j p ≡ p
  unfolding new_place
  place-before h = rw (ne_eqb j k (λ e. omega arith), le-ltb k j (omega arith))

  pub place-above : k < j → n ≤ j → new_place k n q old new j p ≡ p
  unfolding new_place
  place-above g h = rw (ne_eqb j k (λ e. omega arith), lt-ltb k j g, le-ltb j n h)

-- where j stands to k and to n
abbrev pub Stands : ℕ → ℕ → ℕ → Type 0 → Type 0
Stands k n j A = (j ≡ k → A) → (j < k → A) → (k < j → j < n → A) → (k < j → n ≤ j → A) → A

pub stands : {A : Type 0} (k n j : ℕ) → Stands k n j A
stands {A} k n j named before later above = by (eqb j k) refl (ltb j k) refl (ltb j n) refl
  where
    by : (a : Bool) → eqb j k ≡ a → (b : Bool) → ltb j k ≡ b → (c : Bool) → ltb j n ≡ c → A
    by true e b f c g = named (eqb-true j k e)
    by false e true f c g = before (ltb-true j k f)
    by false e false f true g = later (let m : k ≤ j = ltb-false j k f in let d : j ≢ k = eqb-false j k e in omega arith) (ltb-true j n g)
    by false e false f false g = above (let m : k ≤ j = ltb-false j k f in let d : j ≢ k = eqb-false j k e in omega arith) (ltb-false j n g)

-- a place that moves by as much as the section's size changes
moved-is : (old new p q : ℕ) → q + old ≡ p + new → old ≤ turns → q < turns → moved_place old new p ≡ q
moved-is old new p q e h l = omega arith

-- ---- the places, of a section s that becomes s' by an edit at number k

bytes-up-to : (ls : List Link) (i : ℕ) → length (links_bytes (take i ls)) ≤ length (links_bytes ls)
bytes-up-to [] zero = omega arith
bytes-up-to [] (suc i) = omega arith
bytes-up-to (x ∷ ls) zero = omega arith
bytes-up-to (x ∷ ls) (suc i) =
    omega (arith, bytes-up-to ls i, length-append (block_bytes (entry_of x)) (links_bytes ls), length-append (block_bytes (entry_of x)) (links_bytes (take i ls)))

pub place-within : (s : Section) (i : ℕ) → full_length s ≤ turns → entry_place s i < turns
unfolding section_length
place-within s i h = omega (arith, length-payload s, bytes-up-to s.links i)

-- the entries up to link k stand where they stood, and those behind it move with the section's end; link k is there now
record Edited (s : Section) (k : ℕ) (s' : Section) : Type 0 where
  number : k ≤ length s.links
  count : length s'.links ≡ max (length s.links) (k + 1)
  stays : (i : ℕ) → i ≤ k → entry_place s' i ≡ entry_place s i
  moves : (i : ℕ) → k < i → i < length s.links → entry_place s' i + full_length s ≡ entry_place s i + full_length s'

module _ (s : Section) (k : ℕ) (s' : Section) (e : Edited s k s') (few : length s'.links ≤ most_links) (old : full_length s ≤ turns) (new : full_length s' ≤ turns) where
  abbrev becomes : ℕ → ℕ → ℕ
  becomes = new_place k (length s.links) (entry_place s k) (full_length s) (full_length s')

  place-becomes : (i : ℕ) → becomes i (get_or (index_of s).places i 0) ≡ get_or (index_of s').places i 0
  place-becomes i =
      stands k (length s.links) i
      (λ f. place-named k _ _ _ _ i _ f ∙ sym (rw f (index-place s' k (omega (arith, e.count)) ∙ e.stays k (omega arith))))
      (λ g. place-before k _ _ _ _ i _ g ∙ index-place s i (omega (arith, e.number)) ∙ sym (index-place s' i (omega (arith, e.count, e.number)) ∙ e.stays i (omega arith)))
      (λ g m.
      place-later k _ _ _ _ i _ g m
      ∙ ap (moved_place (full_length s) (full_length s')) (index-place s i m)
      ∙ moved-is (full_length s) (full_length s') _ _ (e.moves i g m) old (place-within s' i new)
      ∙ sym (index-place s' i (omega (arith, e.count))))
      (λ g m. place-above k _ _ _ _ i _ g m ∙ index-past s i m ∙ sym (index-past s' i (omega (arith, e.count))))

  places-become : by_number becomes 0 (index_of s).places ≡ (index_of s').places
  places-become =
      let n = length-numbered becomes 0 (index_of s).places in
      ext_get_or 0 _ (index_of s').places
      (n ∙ index-length s (omega (arith, e.count)) ∙ sym (index-length s' few))
      (λ i g. numbered-at becomes (index_of s).places i (omega (arith, n)) ∙ place-becomes i)

  -- with the sets and the descriptors
  index-becomes : (l : Link) → with_marks (sets_of s.links) k (link_marks l) ≡ sets_of s'.links → s.loop ≡ s'.loop → index_with (index_of s) s k l s' ≡ index_of s'
  unfolding told_anew
  index-becomes l sets loop = λ i. record { sets = same-sets i; places = places-become i; descriptors = same_number i }
    where
      same-sets : with_marks (index_of s).sets k (link_marks l) ≡ (index_of s').sets
      same-sets = unfold index_of in sets

      same_number : (index_of s).descriptors ≡ (index_of s').descriptors
      same_number = unfold index_of in ap (λ (b : Block). length (descriptors_of b.body)) loop

-- ---- link k put in

bytes-with : (ls : List Link) (k : ℕ) (l : Link) (i : ℕ) → k < i → k < length ls
    → length (links_bytes (take i (set ls k l))) + length (links_bytes ls) ≡ length (links_bytes (take i ls)) + length (links_bytes (set ls k l))
bytes-with [] k l i h g = absurd (not-suc-le-zero g)
bytes-with (x ∷ ls) k l zero h g = absurd (not-suc-le-zero h)
bytes-with (x ∷ ls) zero l (suc i) h g =
    omega (
      arith,
      length-append (block_bytes (entry_of x)) (links_bytes ls),
      length-append (block_bytes (entry_of l)) (links_bytes ls),
      length-append (block_bytes (entry_of x)) (links_bytes (take i ls)),
      length-append (block_bytes (entry_of l)) (links_bytes (take i ls)),
    )
bytes-with (x ∷ ls) (suc k) l (suc i) h g =
    omega (
      arith,
      bytes-with ls k l i (le_of_suc-le-suc h) (le_of_suc-le-suc g),
      length-append (block_bytes (entry_of x)) (links_bytes ls),
      length-append (block_bytes (entry_of x)) (links_bytes (set ls k l)),
      length-append (block_bytes (entry_of x)) (links_bytes (take i ls)),
      length-append (block_bytes (entry_of x)) (links_bytes (take i (set ls k l))),
    )

with-edited : (s : Section) (k : ℕ) (l : Link) → k < length s.links → Edited s k (with_link s k l)
unfolding with_link section_length
with-edited s k l h =
    record {
      number = omega arith;
      count = omega (arith, length-set s.links k l);
      stays = λ i g. ap (λ r. head_length + length (links_bytes r)) (take-set-le i s.links k l g);
      moves = λ i g m. omega (arith, bytes-with s.links k l i g h, length-payload s, length-payload (with_links s (set s.links k l)));
    }

pub index-with : (s : Section) (k : ℕ) (l : Link) → k < length s.links → length s.links ≤ most_links → full_length s ≤ turns → full_length (with_link s k l) ≤ turns
    → index_with (index_of s) s k l (with_link s k l) ≡ index_of (with_link s k l)
index-with s k l h few old new =
    index-becomes s k (with_link s k l) (with-edited s k l h) (omega (arith, length-with s k l)) old new l
    (unfold with_link in sets-with s.links k l h) (unfold with_link in refl)

-- ---- a link more

next-edited : (s : Section) (l : Link) → Edited s (length s.links) (with_next s l)
unfolding with_next
next-edited s l =
    record {
      number = omega arith;
      count = omega (arith, length-append s.links (l ∷ []));
      stays = λ i g. ap (λ r. head_length + length (links_bytes r)) (take-append-le i s.links (l ∷ []) g);
      moves = λ i g m. absurd (omega arith);
    }

pub index-next : (s : Section) (l : Link) → length s.links < most_links → full_length s ≤ turns → full_length (with_next s l) ≤ turns
    → index_with (index_of s) s (length s.links) l (with_next s l) ≡ index_of (with_next s l)
index-next s l few old new =
    index-becomes s (length s.links) (with_next s l) (next-edited s l) (omega (arith, length-next s l)) old new l
    (unfold with_next in sets_more s.links l (omega arith)) (unfold with_next in refl)
