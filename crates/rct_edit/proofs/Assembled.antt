-- What the code of an edit does to the lent buffer, step by step, is what the syntax says.
-- Assumes nothing.
use mathlib.Core.Path.{◌≡◌, refl, sym, ap, ◌∙◌}
use Prim.Native.Nat.{ℕ, ◌+◌, ◌-◌, ◌≤◌, ◌<◌, max}
use native.Mathlib.Omega.{arith}
use mathlib.Core.List.{List, ◌++◌, append_assoc}
use lib.ListN.{length, take, drop, replicate, length-replicate}
use lib.Seq.{sets, length-sets, sets-eq, take-add, take_at}
use Rattle.wire.specs.Lists.{part}
use Rattle.length_field.specs.Lengths.{block_bytes}
use Rattle.wire.specs.Numbers.{bytes32}
use Rattle.wire.proofs.Lists.{length_part}
use Rattle.wire.proofs.Words.{length-bytes32}
use Rattle.byte_stores.proofs.Writing.{sets-before, sets-from, sets-take, sets_behind}
use Rattle.crc.specs.Crc.{crc_of}
use Rattle.link.specs.Syntax.{Link, entry_of}
use Rattle.frame.proofs.Opening.{Opened}
use Rattle.frame.specs.Syntax.{crc_length}
use Rattle.frame.specs.Reading.{payload_end, total_of}
use Rattle.frame.specs.declared.Demands.{Demands}
use Rattle.rct.specs.Syntax.{rct, Section, section_length, full_length, section_bytes, sealed}
use Rattle.rct.proofs.Accepted.{length-section}
use Rattle.rct_edit.specs.Edit.{filler, written, fresh}
use Rattle.rct_edit.specs.Rehead.{rehead}
use Rattle.rct_edit.proofs.Locality.{rehead-take, rehead-drop, rehead-length, Splice}

-- the five steps on a buffer xs: the tail M moved to its new place, the link's bytes C written at p, the head's numbers, the CRC's bytes W, the fill F
pub record Steps (xs : List ℕ) (p len count : ℕ) (C M W F : List ℕ) (y1 y2 y3 y4 y5 : List ℕ) : Type 0 where
  pub moved : y1 ≡ sets xs (p + length C) M
  pub linked : y2 ≡ sets y1 p C
  pub headed : y3 ≡ rehead y2 len count
  pub summed : y4 ≡ sets y3 (p + length C + length M) W
  pub filled : y5 ≡ sets y4 (p + length C + length M + length W) F

module _ (xs : List ℕ) (p len count : ℕ) (C M W F : List ℕ) (y1 y2 y3 y4 y5 : List ℕ) (st : Steps xs p len count C M W F y1 y2 y3 y4 y5)
    (low : 10 < p) (room : p + length C + length M + length W + length F ≤ length xs) where
  l1 : length y1 ≡ length xs
  l1 = rw st.moved (length-sets xs (p + length C) M)

  l2 : length y2 ≡ length xs
  l2 = rw st.linked (length-sets y1 p C ∙ l1)

  l3 : length y3 ≡ length xs
  l3 = rw st.headed (rehead-length y2 len count ∙ l2)

  l4 : length y4 ≡ length xs
  l4 = rw st.summed (length-sets y3 (p + length C + length M) W ∙ l3)

  -- what the CRC is taken of
  pub steps_front : take (p + length C + length M) y3 ≡ rehead (take p xs ++ (C ++ M)) len count
  steps_front = rw (st.headed, rehead-take (p + length C + length M) y2 len count (omega arith)) (ap (λ r. rehead r len count) inner)
    where
      head : take (p + length C) y2 ≡ take p xs ++ C
      head = rw (st.linked, sets-take y1 p C (omega (arith, l1)), st.moved, sets-before xs (p + length C) M (omega arith) p (omega arith))

      tail : take (length M) (drop (p + length C) y2) ≡ M
      tail =
          rw (st.linked, sets_behind y1 p C (omega (arith, l1)) (p + length C) (omega arith), st.moved, sets-from xs (p + length C) M (omega arith))
          (take_at M (drop (p + length C + length M) xs) (length M) refl)

      inner : take (p + length C + length M) y2 ≡ take p xs ++ (C ++ M)
      inner = rw (take-add (p + length C) (length M) y2, head, tail, append_assoc)

  pub steps_all : y5 ≡ (take (p + length C + length M) y3 ++ W) ++ (F ++ drop (p + length C + length M + length W + length F) xs)
  steps_all =
      st.filled ∙ sets-eq F y4 E (omega (arith, l4)) ∙ append_assoc (take E y4) F (drop (E + length F) y4)
      ∙ ap (λ r. r ++ (F ++ drop (E + length F) y4)) front ∙ ap (λ r. (take (p + length C + length M) y3 ++ W) ++ (F ++ r)) back
    where
      E : ℕ
      E = p + length C + length M + length W

      front : take E y4 ≡ take (p + length C + length M) y3 ++ W
      front = rw st.summed (sets-take y3 (p + length C + length M) W (omega (arith, l3)))

      back : drop (E + length F) y4 ≡ drop (E + length F) xs
      back =
          ap (λ r. drop (E + length F) r) st.summed ∙ sets_behind y3 (p + length C + length M) W (omega (arith, l3)) (E + length F) (omega arith)
          ∙ ap (λ r. drop (E + length F) r) st.headed ∙ rehead-drop (E + length F) y2 len count (omega arith)
          ∙ ap (λ r. drop (E + length F) r) st.linked ∙ sets_behind y1 p C (omega (arith, l1)) (E + length F) (omega arith)
          ∙ ap (λ r. drop (E + length F) r) st.moved ∙ sets_behind xs (p + length C) M (omega arith) (E + length F) (omega arith)

-- ---- an edit of the section in xs, between p and q

module _ (dm : Demands) (xs : List ℕ) (o : Opened rct dm xs) (s' : Section) (l : Link) (p q : ℕ) (sp : Splice xs s' l p q) where
  -- the bytes of the link, and what lies behind the old place, up to the CRC
  abbrev pub link_run : List ℕ
  link_run = block_bytes (entry_of l)

  abbrev pub tail_run : List ℕ
  tail_run = part xs q (payload_end xs - q)

  -- where the new CRC stands
  abbrev pub new_end : ℕ
  new_end = p + length link_run + length tail_run

  length-tail : length tail_run ≡ payload_end xs - q
  length-tail = length_part xs q (payload_end xs - q) (omega (arith, sp.inside, o.within))

  pub new-end : new_end + crc_length ≡ full_length s'
  new-end = omega (arith, length-tail, sp.sum, sp.inside, o.large)

  pub assembled : (y1 y2 y3 y4 y5 : List ℕ) → full_length s' ≤ length xs
      → Steps xs p (section_length s') (length s'.links) link_run tail_run (bytes32 (crc_of (take new_end y3))) (replicate (total_of xs - full_length s') filler) y1 y2 y3 y4 y5
      → y5 ≡ written xs s'
  unfolding written sealed
  assembled y1 y2 y3 y4 y5 r st =
      all ∙ ap (λ z. (z ++ bytes32 (crc_of z)) ++ (F ++ drop (new_end + length W + length F) xs)) front
      ∙ ap (λ i. section_bytes s' ++ bytes32 (crc_of (section_bytes s')) ++ (F ++ drop i xs)) ends
    where
      W : List ℕ
      W = bytes32 (crc_of (take new_end y3))

      F : List ℕ
      F = replicate (total_of xs - full_length s') filler

      lw : length W ≡ crc_length
      lw = length-bytes32 (crc_of (take new_end y3))

      lf : length F ≡ total_of xs - full_length s'
      lf = length-replicate (total_of xs - full_length s') filler

      low : 10 < p
      low = omega (arith, sp.low)

      room : p + length link_run + length tail_run + length W + length F ≤ length xs
      room = omega (arith, new-end, lw, lf, r, o.within)

      front : take new_end y3 ≡ section_bytes s'
      front = steps_front xs p (section_length s') (length s'.links) link_run tail_run W F y1 y2 y3 y4 y5 st low room ∙ sym sp.bytes

      all : y5 ≡ (take new_end y3 ++ W) ++ (F ++ drop (new_end + length W + length F) xs)
      all = steps_all xs p (section_length s') (length s'.links) link_run tail_run W F y1 y2 y3 y4 y5 st low room

      ends : new_end + length W + length F ≡ max (total_of xs) (full_length s')
      ends = omega (arith, new-end, lw, lf)

-- ---- making: the bytes, then the CRC of them

pub assembled-fresh : (xs : List ℕ) (s : Section) (y1 y2 : List ℕ) → full_length s ≤ length xs
    → y1 ≡ sets xs 0 (section_bytes s)
    → y2 ≡ sets y1 (length (section_bytes s)) (bytes32 (crc_of (take (length (section_bytes s)) y1)))
    → y2 ≡ fresh xs s
unfolding fresh sealed
assembled-fresh xs s y1 y2 r e1 e2 =
    e2 ∙ ap (λ z. sets y1 n (bytes32 (crc_of z))) front ∙ sets-eq W y1 n (omega (arith, l1, lw, length-section s))
    ∙ ap (λ z. (z ++ W) ++ drop (n + length W) y1) front ∙ ap (λ z. (section_bytes s ++ W) ++ z) back
  where
    n : ℕ
    n = length (section_bytes s)

    W : List ℕ
    W = bytes32 (crc_of (section_bytes s))

    lw : length W ≡ crc_length
    lw = length-bytes32 (crc_of (section_bytes s))

    l1 : length y1 ≡ length xs
    l1 = rw e1 (length-sets xs 0 (section_bytes s))

    inside : 0 + length (section_bytes s) ≤ length xs
    inside = omega (arith, length-section s)

    front : take n y1 ≡ section_bytes s
    front = let e : n ≡ 0 + n = omega arith in ap (λ z. take z y1) e ∙ rw e1 (sets-take xs 0 (section_bytes s) inside)

    back : drop (n + length W) y1 ≡ drop (full_length s) xs
    back = let e : n + length W ≡ full_length s = omega (arith, lw, length-section s) in ap (λ z. drop z y1) e ∙ rw e1 (sets_behind xs 0 (section_bytes s) inside (full_length s) (omega (arith, length-section s)))
