-- An edit changes the link's own bytes, the length field and the count, and nothing else: the new section is the old one with a link's bytes between places p and q, and its head's numbers anew.
-- Assumes nothing.
use mathlib.Core.Path.{◌≡◌, refl, sym, ap, ◌∙◌}
use Prim.Native.Nat.{ℕ, suc, ◌+◌, ◌-◌, ◌*◌, ◌/◌, ◌%◌, ◌≤◌, ◌<◌}
use native.Mathlib.Omega.{arith}
use mathlib.Core.List.{List, [], ◌∷◌, ◌++◌, append_assoc, append-nil}
use lib.ListN.{length, take, drop, get_or, set, length-append, length-take, length-set}
use lib.Seq.{take_at, drop_at, take-take, set_split, split_at, take-set-lt, drop-set-lt, get_or-take}
use Rattle.wire.proofs.Lists.{drop-take}
use Rattle.wire.specs.Lists.{Bytes, part}
use Rattle.length_field.specs.Lengths.{longest, length_bytes, beside_of, beside_at, block_bytes, block_end}
use Rattle.link.specs.Syntax.{Link, entry_of}
use Rattle.section_header.specs.Syntax.{header_bytes, first_bits}
use Rattle.frame.specs.Reading.{declared, payload_end}
use Rattle.frame.specs.declared.Demands.{Demands}
use Rattle.rct.specs.declared.RctHeader.{RctHeader}
use Rattle.rct.specs.Syntax.{link_count_place, table_id, head_length, Section, head_bytes, links_bytes, payload, section_length, section_bytes}
use Rattle.rct.specs.Reading.{count_at, link_in, links_at, link_place, loop_place, section_at, reading}
use Rattle.rct.proofs.Links.{entry_length, entry_read_lem, EntryRead, length-links_at, Found, found, links-append}
use Rattle.rct.proofs.Accepted.{length-payload, Accepted, accepted, length_is, rebuild}
use Rattle.rct_edit.specs.Edit.{with_links, with_link, with_next}
use Rattle.rct_edit.specs.Rehead.{rehead}
use Rattle.wire.specs.Verdict.{Fine}

-- ---- the head's numbers anew

pub rehead-head : (h : RctHeader) (m n j k : ℕ) (ys : List ℕ) → m ≤ longest → rehead (head_bytes h m j ++ ys) n k ≡ head_bytes h n k ++ ys
unfolding rehead head_bytes header_bytes length_bytes
rehead-head h m n j k ys l = λ i. table_id ∷ first i ∷ drop 2 (head_bytes h n k ++ ys)
  where
    first : beside_of (first_bits h.section * 16 + m / 256) (m % 256) * 16 + n / 256 ≡ first_bits h.section * 16 + n / 256
    first = omega (arith, l)

pub rehead-take : (e : ℕ) (xs : List ℕ) (n k : ℕ) → link_count_place < e → take e (rehead xs n k) ≡ rehead (take e xs) n k
unfolding rehead length_bytes
rehead-take e xs n k h =
    let h1 : 1 < e = omega arith in
    let h2 : 2 < e = omega arith in
    let hi : ℕ = beside_at xs 1 * 16 + n / 256 in
    rw (take-set-lt e (set (set xs 1 hi) 2 (n % 256)) 10, take-set-lt e (set xs 1 hi) 2, take-set-lt e xs 1, get_or-take e xs 1 0, get_or-take e xs 2 0)

pub rehead-drop : (e : ℕ) (xs : List ℕ) (n k : ℕ) → link_count_place < e → drop e (rehead xs n k) ≡ drop e xs
unfolding rehead length_bytes
rehead-drop e xs n k h =
    let h1 : 1 < e = omega arith in
    let h2 : 2 < e = omega arith in
    let hi : ℕ = beside_at xs 1 * 16 + n / 256 in
    rw (drop-set-lt e (set (set xs 1 hi) 2 (n % 256)) 10, drop-set-lt e (set xs 1 hi) 2, drop-set-lt e xs 1)

pub rehead-length : (xs : List ℕ) (n k : ℕ) → length (rehead xs n k) ≡ length xs
unfolding rehead length_bytes
rehead-length xs n k = simp length-set

-- ---- of the bytes that the syntax gives: links A, then K, then B; link l in place of K

module _ (s : Section) (A K B : List Link) (l : Link) (is : s.links ≡ A ++ (K ++ B)) where
  L : List ℕ
  L = block_bytes s.loop

  C : List ℕ
  C = block_bytes (entry_of l)

  old-links : links_bytes s.links ≡ links_bytes A ++ (links_bytes K ++ links_bytes B)
  old-links = ap links_bytes is ∙ links-append A (K ++ B) ∙ ap (λ r. links_bytes A ++ r) (links-append K B)

  new-links : links_bytes (A ++ l ∷ B) ≡ links_bytes A ++ (block_bytes (entry_of l) ++ links_bytes B)
  new-links = links-append A (l ∷ B)

  pub length-splice : section_length (with_links s (A ++ l ∷ B)) + length (links_bytes K) ≡ section_length s + length (block_bytes (entry_of l))
  unfolding section_length
  length-splice =
      omega (
        arith,
        simp length-append at (ap length old-links),
        simp length-append at (ap length new-links),
        length-payload s,
        length-payload (with_links s (A ++ l ∷ B)),
      )

  pub locality : section_length s ≤ longest → (p q : ℕ) → p ≡ head_length + length (links_bytes A) → q ≡ p + length (links_bytes K)
      → section_bytes (with_links s (A ++ l ∷ B))
      ≡ rehead (take p (section_bytes s) ++ (block_bytes (entry_of l) ++ drop q (section_bytes s))) (section_length (with_links s (A ++ l ∷ B))) (length (A ++ l ∷ B))
  unfolding section_bytes payload L C
  locality m p q ep eq = rw (before, behind) (left ∙ sym right)
    where
      n : ℕ
      n = section_length (with_links s (A ++ l ∷ B))

      H : List ℕ
      H = head_bytes s.header (section_length s) (length s.links)

      length_h : length H ≡ head_length
      length_h = unfold head_bytes header_bytes length_bytes in refl

      before : take p (section_bytes s) ≡ H ++ links_bytes A
      before =
          let e : section_bytes s ≡ (H ++ links_bytes A) ++ (links_bytes K ++ (links_bytes B ++ L)) = rw old-links (simp append_assoc) in
          rw e (take_at (H ++ links_bytes A) _ p (simp length-append (omega (arith, length_h))))

      behind : drop q (section_bytes s) ≡ links_bytes B ++ L
      behind =
          let e : section_bytes s ≡ ((H ++ links_bytes A) ++ links_bytes K) ++ (links_bytes B ++ L) = rw old-links (simp append_assoc) in
          rw e (drop_at ((H ++ links_bytes A) ++ links_bytes K) _ q (simp length-append (omega (arith, length_h))))

      Y : List ℕ
      Y = links_bytes A ++ (C ++ (links_bytes B ++ L))

      left : section_bytes (with_links s (A ++ l ∷ B)) ≡ head_bytes s.header n (length (A ++ l ∷ B)) ++ Y
      left = rw new-links (simp append_assoc)

      right : rehead ((H ++ links_bytes A) ++ (C ++ (links_bytes B ++ L))) n (length (A ++ l ∷ B)) ≡ head_bytes s.header n (length (A ++ l ∷ B)) ++ Y
      right =
          ap (λ r. rehead r n (length (A ++ l ∷ B))) (append_assoc H (links_bytes A) (C ++ (links_bytes B ++ L)))
          ∙ rehead-head s.header (section_length s) n (length s.links) (length (A ++ l ∷ B)) Y m

-- ---- of an accepted section in a lent buffer

-- s' is the section in xs with the bytes of l between p and q
pub record Splice (xs : List ℕ) (s' : Section) (l : Link) (p q : ℕ) : Type 0 where
  pub low : head_length ≤ p
  pub ordered : p ≤ q
  pub inside : q ≤ payload_end xs
  pub sum : section_length s' + q ≡ declared xs + p + length (block_bytes (entry_of l))
  pub bytes : section_bytes s' ≡ rehead (take p xs ++ (block_bytes (entry_of l) ++ part xs q (payload_end xs - q))) (section_length s') (length s'.links)

module _ (dm : Demands) (xs : List ℕ) (b : Bytes xs) (v : reading dm xs ≡ Fine) (m : dm.most ≤ longest) where
  splice : (A K B : List Link) (l : Link) → (section_at xs).links ≡ A ++ (K ++ B) → (p q : ℕ) → p ≡ head_length + length (links_bytes A) → q ≡ p + length (links_bytes K) → q ≤ payload_end xs
      → Splice xs (with_links (section_at xs) (A ++ l ∷ B)) l p q
  splice A K B l is p q ep eq inside = record { low = omega arith; ordered = omega arith; inside = inside; sum = sum; bytes = bytes }
    where
      a : Accepted dm xs
      a = accepted dm xs b v

      len : section_length (section_at xs) ≡ declared xs
      len = length_is dm xs b a

      sum : section_length (with_links (section_at xs) (A ++ l ∷ B)) + q ≡ declared xs + p + length (block_bytes (entry_of l))
      sum = omega (arith, length-splice (section_at xs) A K B l is, len)

      front : take p (take (payload_end xs) xs) ≡ take p xs
      front = take-take p (payload_end xs) xs (omega arith)

      back : drop q (take (payload_end xs) xs) ≡ part xs q (payload_end xs - q)
      back = drop-take xs q (payload_end xs) inside (omega (arith, a.frame.within))

      bytes : section_bytes (with_links (section_at xs) (A ++ l ∷ B))
          ≡ rehead (take p xs ++ (block_bytes (entry_of l) ++ part xs q (payload_end xs - q))) (section_length (with_links (section_at xs) (A ++ l ∷ B))) (length (A ++ l ∷ B))
      bytes =
          rw (← front, ← back, ← rebuild dm xs b v)
          (locality (section_at xs) A K B l is (omega (arith, len, a.frame.limited)) p q ep eq)

  pub replace-splice : (k : ℕ) (l : Link) → k < count_at xs → Splice xs (with_link (section_at xs) k l) l (link_place xs k) (block_end xs (link_place xs k))
  unfolding with_link section_at
  replace-splice k l h =
      rw (set_split ls k l under)
      (splice (take k ls) (get_or ls k l ∷ []) (drop (suc k) ls) l (split_at ls k l under) p (block_end xs p) here.place size here.within)
    where
      a : Accepted dm xs
      a = accepted dm xs b v

      ls : List Link
      ls = links_at (count_at xs) xs head_length

      p : ℕ
      p = link_place xs k

      under : k < length ls
      under = rw (length-links_at (count_at xs) xs head_length) h

      here : Found (count_at xs) k xs (payload_end xs) head_length
      here = found (count_at xs) k xs (payload_end xs) head_length b (omega (arith, a.frame.within)) a.links_fine h

      read : EntryRead xs p
      read = entry_read_lem xs p b (omega (arith, here.within, a.frame.within)) here.good

      size : block_end xs p ≡ p + length (links_bytes (get_or ls k l ∷ []))
      size = rw (here.link l) (omega (arith, length-append (block_bytes (entry_of (link_in xs p))) [], entry_length (link_in xs p), read.size))

  pub append-splice : (l : Link) → Splice xs (with_next (section_at xs) l) l (loop_place xs) (loop_place xs)
  unfolding with_next section_at
  append-splice l = splice ls [] [] l (sym (append-nil ls)) (loop_place xs) (loop_place xs) place (omega arith) (omega (arith, a.loop_end))
    where
      a : Accepted dm xs
      a = accepted dm xs b v

      ls : List Link
      ls = links_at (count_at xs) xs head_length

      place : loop_place xs ≡ head_length + length (links_bytes ls)
      place = omega (arith, simp (length-append, length-take) at (ap length a.walked_links.same), a.frame.large, a.frame.within, a.walked_links.within)
