-- A table whose records are written and read: from its two laws, that what is accepted is written as it was read (`Rebuilt`) and
-- that what is written is read as it was (`Back`), follow what they are for. Accepted are exactly the sections that the syntax
-- writes, no two records share bytes, and the checked reading passes exactly those that begin with a section and its CRC.
-- Assumes nothing.
use mathlib.Core.Path.{◌≡◌, sym, ap, ◌∙◌}
use mathlib.Core.Logic.{◌↔◌}
use Prim.Native.Nat.{ℕ, ◌≤◌}
use native.Mathlib.Omega.{arith}
use mathlib.Core.List.{List, ◌++◌, append_assoc}
use lib.ListN.{length, take, drop, replicate, length-append, length-replicate, take-append-drop}
use lib.Seq.{take_at, drop_at}
use Rattle.wire.specs.Lists.{Bytes, part}
use Rattle.wire.specs.Numbers.{bytes32, be32}
use Rattle.length_field.specs.Lengths.{longest}
use Rattle.wire.proofs.Lists.{length_part}
use Rattle.wire.proofs.Words.{length-bytes32, be32-back, be32-rebuild}
use Rattle.crc.specs.Crc.{crc_of}
use Rattle.frame.specs.Syntax.{crc_length, least, with_crc}
use Rattle.frame.specs.Reading.{payload_end, checked_demands, stored, computed, computed_at, reading_by, checked_by}
use Rattle.frame.specs.declared.Table.{Table}
use Rattle.frame.specs.declared.Demands.{Demands}
use Rattle.frame.proofs.Readings.{reading-opened, checked-reading, checked-right, checked-pass}
use Rattle.wire.specs.Verdict.{Fine, Verdict}

module _ {S : Type 0} (t : Table) (rows : List ℕ → Verdict) (write : S → List ℕ) (read : List ℕ → S) (Fit : Demands → S → Type 0) where
  -- ---- the two laws

  -- what is read of xs fits, and is written as the bytes up to the CRC
  pub record Rebuilt (d : Demands) (xs : List ℕ) : Type 0 where
    pub same : write (read xs) ≡ take (payload_end xs) xs
    pub fits : Fit d (read xs)

  -- xs is accepted and read as s, whose bytes end where the CRC begins
  pub record Back (d : Demands) (s : S) (xs : List ℕ) : Type 0 where
    pub passed : reading_by t rows d xs ≡ Fine
    pub same : read xs ≡ s
    pub end : payload_end xs ≡ length (write s)

  -- ---- what follows from them

  -- the bytes of a section that fits, then four for its CRC, then whatever follows
  pub record Written (d : Demands) (xs : List ℕ) : Type 0 where
    pub section : S
    pub fits : Fit d section
    pub crc : List ℕ
    pub four : length crc ≡ crc_length
    pub rest : List ℕ
    pub is : xs ≡ write section ++ (crc ++ rest)

  -- the list begins with the section s and its CRC
  pub record Holds (s : S) (xs : List ℕ) : Type 0 where
    pub fits : Fit checked_demands s
    pub rest : List ℕ
    pub is : xs ≡ with_crc (write s) ++ rest

  pub record Sealed (xs : List ℕ) : Type 0 where
    pub section : S
    pub holds : Holds section xs

  -- every section of the table has room for a CRC
  module _ (four : crc_length ≤ least t) (rebuilt : (d : Demands) (xs : List ℕ) → Bytes xs → reading_by t rows d xs ≡ Fine → Rebuilt d xs)
      (back : (d : Demands) (s : S) (tail : List ℕ) → d.most ≤ longest → Fit d s → crc_length ≤ length tail → Back d s (write s ++ tail)) where
    pub accepted-iff : (d : Demands) (xs : List ℕ) → d.most ≤ longest → Bytes xs → (reading_by t rows d xs ≡ Fine) ↔ Written d xs
    accepted-iff d xs m b = (to, from)
      where
        to : reading_by t rows d xs ≡ Fine → Written d xs
        to v =
            let o = reading-opened t rows d xs v in
            let r = rebuilt d xs b v in
            let e : ℕ = payload_end xs in
            record {
              section = read xs;
              fits = r.fits;
              crc = part xs e crc_length;
              four = length_part xs e crc_length (omega (arith, four, o.large, o.within));
              rest = drop crc_length (drop e xs);
              is = rw r.same (sym (ap (λ l. take e xs ++ l) (take-append-drop crc_length (drop e xs)) ∙ take-append-drop e xs));
            }

        from : Written d xs → reading_by t rows d xs ≡ Fine
        from w = rw w.is (back d w.section (w.crc ++ w.rest) m w.fits (simp length-append (omega (arith, w.four)))).passed

    -- no section's bytes begin with another's, whatever follows either
    pub one-section : (d : Demands) (s r : S) (a b : List ℕ) → d.most ≤ longest → Fit d s → Fit d r → write s ++ a ≡ write r ++ b → s ≡ r
    one-section d s r a b m f g e = sym (again s a f) ∙ ap (λ l. read (l ++ crc)) e ∙ again r b g
      where
        crc : List ℕ
        crc = replicate crc_length 0

        again : (q : S) (c : List ℕ) → Fit d q → read ((write q ++ c) ++ crc) ≡ q
        again q c h = rw append_assoc (back d q (c ++ crc) m h (simp (length-append, length-replicate) (omega arith))).same

    pub record Known (s : S) (xs : List ℕ) : Type 0 where
      pub passed : checked_by t rows xs ≡ Fine
      pub same : read xs ≡ s
      pub end : payload_end xs ≡ length (write s)

    -- a section with its CRC passes, and is read as what it was written from
    pub holds-known : (s : S) (xs : List ℕ) → Holds s xs → Known s xs
    unfolding computed_at
    holds-known s xs h = record { passed = checked-pass t rows xs b.passed right; same = b.same; end = b.end }
      where
        n : ℕ
        n = crc_of (write s)

        tail : List ℕ
        tail = bytes32 n ++ h.rest

        split : xs ≡ write s ++ tail
        split = h.is ∙ append_assoc (write s) (bytes32 n) h.rest

        b : Back checked_demands s xs
        b = rw split (back checked_demands s tail (omega arith) h.fits (omega (arith, length-append (bytes32 n) h.rest, length-bytes32 n)))

        behind : drop (payload_end xs) xs ≡ tail
        behind = ap (λ l. drop (payload_end xs) l) split ∙ drop_at (write s) tail (payload_end xs) (sym b.end)

        before : take (payload_end xs) xs ≡ write s
        before = ap (λ l. take (payload_end xs) l) split ∙ take_at (write s) tail (payload_end xs) (sym b.end)

        right : stored xs ≡ computed xs
        right = be32-back xs (payload_end xs) n h.rest behind ∙ ap crc_of (sym before)

    -- what passes begins with the section that is read, and its CRC
    pub checked-holds : (xs : List ℕ) → Bytes xs → checked_by t rows xs ≡ Fine → Holds (read xs) xs
    unfolding computed_at
    checked-holds xs b v =
        let o = reading-opened t rows checked_demands xs (checked-reading t rows xs v) in
        let r = rebuilt checked_demands xs b (checked-reading t rows xs v) in
        let e : ℕ = payload_end xs in
        let right : be32 xs e ≡ crc_of (take e xs) = checked-right t rows xs v in
        let last : bytes32 (be32 xs e) ≡ part xs e crc_length = be32-rebuild xs e b (omega (arith, four, o.large, o.within)) in
        record {
          fits = r.fits;
          rest = drop crc_length (drop e xs);
          is = rw (r.same, ← right, last, append_assoc, take-append-drop crc_length (drop e xs)) (sym (take-append-drop e xs));
        }

    pub checked-exactly : (xs : List ℕ) → Bytes xs → (checked_by t rows xs ≡ Fine) ↔ Sealed xs
    checked-exactly xs b = ((λ v. record { section = read xs; holds = checked-holds xs b v }), (λ h. (holds-known h.section xs h.holds).passed))
