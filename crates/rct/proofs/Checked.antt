-- The checked reading: fine exactly if the plain one is, section_syntax_indicator is set, the length is within the limit and the CRC is right; and so exactly if the bytes begin with a sealed section. Both are frame's, of any table.
-- Assumes nothing.
use mathlib.Core.Path.{◌≡◌, refl}
use mathlib.Core.Logic.{◌↔◌}
use Prim.Native.Nat.{ℕ, ◌≤◌, ◌<◌}
use native.Mathlib.Omega.{arith}
use mathlib.Core.List.{List, [], ◌∷◌, ◌++◌}
use lib.ListN.{length, take, length-append}
use lib.Seq.{take_at}
use Rattle.wire.specs.Lists.{Bytes}
use Rattle.wire.specs.Numbers.{bytes32}
use Rattle.length_field.specs.Lengths.{longest, block_bytes}
use Rattle.wire.proofs.Lists.{bytes-append}
use Rattle.wire.proofs.Words.{length-bytes32, bytes32-bytes}
use Rattle.length_field.proofs.Blocks.{block-bytes}
use Rattle.wire.proofs.Verdicts.{passed-leb, pass-leb}
use Rattle.crc.specs.Crc.{crc_of}
use Rattle.crc.proofs.Ending.{crc-lt}
use Rattle.link.specs.Syntax.{Link, entry_of}
use Rattle.frame.specs.Reading.{total_of, checked_demands}
use Rattle.frame.specs.declared.Demands.{Demands}
use Rattle.frame.proofs.Readings as readings
use Rattle.frame.proofs.Tables as tables
use Rattle.rct.specs.Syntax.{head_length, rct, Section, head_bytes, links_bytes, payload, section_length, full_length, section_bytes, sealed, LinksFit, Fits}
use Rattle.rct.specs.Reading.{count_at, section_at, payload_verdict, reading, number_row, checked}
use Rattle.rct.proofs.Head.{head_bytes_lem}
use Rattle.rct.proofs.Links.{entry-fits, length-links_at}
use Rattle.rct.proofs.Accepted.{length-section, shortest-least, rebuilt, back, crc-least}
use Rattle.wire.specs.Verdict.{Fine}

-- ---- against the plain reading

-- plainly fine, the indicator as d demands it, and no longer than it takes
abbrev pub Within : Demands → List ℕ → Type 0
Within = readings.Within rct payload_verdict

-- a reading by demands is the plain one, of sections that meet them
pub within-iff : (d : Demands) (xs : List ℕ) → d.most ≤ longest → (reading d xs ≡ Fine) ↔ Within d xs
within-iff = readings.within-iff rct payload_verdict

-- plainly fine, the indicator set, within the limit, and the stored CRC is the computed one
abbrev pub Checks : List ℕ → Type 0
Checks = readings.Checks rct payload_verdict

pub checked-iff : (xs : List ℕ) → (checked xs ≡ Fine) ↔ Checks xs
checked-iff = readings.checked-iff rct payload_verdict

-- ---- against the syntax

pub length-sealed : (s : Section) → length (sealed s) ≡ full_length s
unfolding sealed
length-sealed s = omega (arith, length-append (section_bytes s) (bytes32 (crc_of (section_bytes s))), length-bytes32 (crc_of (section_bytes s)), length-section s)

-- the list begins with the section s, sealed
abbrev pub Holds : Section → List ℕ → Type 0
Holds = tables.Holds rct payload_verdict section_bytes section_at Fits

-- made of `sealed s` and a rest, and taken apart again
pub sealed-holds : (s : Section) (rest : List ℕ) → Fits checked_demands s → Holds s (sealed s ++ rest)
unfolding sealed
sealed-holds s rest f = record { fits = f; rest = rest; is = refl }

pub holds-sealed : (s : Section) (xs : List ℕ) (h : Holds s xs) → xs ≡ sealed s ++ h.rest
unfolding sealed
holds-sealed s xs h = h.is

-- the list passes, is read as s, and its CRC stands behind the bytes of s
abbrev pub Known : Section → List ℕ → Type 0
Known = tables.Known rct payload_verdict section_bytes section_at Fits crc-least rebuilt back

-- a sealed section passes, and is read as what it was written from
pub holds-known : (s : Section) (xs : List ℕ) → Holds s xs → Known s xs
holds-known = tables.holds-known rct payload_verdict section_bytes section_at Fits crc-least rebuilt back

pub holds-total : (s : Section) (xs : List ℕ) → Holds s xs → total_of xs ≡ full_length s
holds-total s xs h = omega (arith, (holds-known s xs h).end, length-section s, shortest-least s)

-- what passes begins with the section that is read, sealed
pub checked-holds : (xs : List ℕ) → Bytes xs → checked xs ≡ Fine → Holds (section_at xs) xs
checked-holds = tables.checked-holds rct payload_verdict section_bytes section_at Fits crc-least rebuilt back

abbrev pub Sealed : List ℕ → Type 0
Sealed = tables.Sealed rct payload_verdict section_bytes section_at Fits

pub checked-exactly : (xs : List ℕ) → Bytes xs → (checked xs ≡ Fine) ↔ Sealed xs
checked-exactly = tables.checked-exactly rct payload_verdict section_bytes section_at Fits crc-least rebuilt back

pub holds-bytes : (s : Section) (xs : List ℕ) → Holds s xs → take (full_length s) xs ≡ sealed s
holds-bytes s xs h = rw (holds-sealed s xs h) (take_at (sealed s) h.rest (full_length s) (length-sealed s))

pub count_is : (xs : List ℕ) → length (section_at xs).links ≡ count_at xs
unfolding section_at
count_is xs = length-links_at (count_at xs) xs head_length

-- ---- the row of link k

pub number_passed : (xs : List ℕ) (k : ℕ) → number_row xs k ≡ Fine → k < count_at xs
unfolding number_row
number_passed xs k v = passed-leb (count_at xs) k _ _ _ v

pub number-pass : (xs : List ℕ) (k : ℕ) → k < count_at xs → number_row xs k ≡ Fine
unfolding number_row
number-pass xs k h = pass-leb (count_at xs) k _ _ _ h

-- ---- a sealed section is made of bytes

links-bytes : (ls : List Link) → LinksFit ls → Bytes (links_bytes ls)
links-bytes [] f = tt
links-bytes (l ∷ ls) f = bytes-append (block_bytes (entry_of l)) (links_bytes ls) (block-bytes (entry_of l) (entry-fits l f.0)) (links-bytes ls f.1)

pub sealed-bytes : (d : Demands) (s : Section) → d.most ≤ longest → Fits d s → Bytes (sealed s)
unfolding sealed section_bytes payload
sealed-bytes d s m f =
    bytes-append (section_bytes s) (bytes32 (crc_of (section_bytes s)))
    (bytes-append (head_bytes s.header (section_length s) (length s.links)) (payload s) (head_bytes_lem s.header (section_length s) (length s.links) f.header (omega (arith, f.fits)) f.count)
    (bytes-append (links_bytes s.links) (block_bytes s.loop) (links-bytes s.links f.links) (block-bytes s.loop f.loop)))
    (bytes32-bytes (crc_of (section_bytes s)) (crc-lt (section_bytes s)))
