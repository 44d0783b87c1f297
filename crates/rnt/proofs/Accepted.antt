-- A reading accepts exactly what the syntax writes. Rebuild: the records of an accepted section fit, and are written as the bytes that were read. Read back: what records that fit are written as is accepted, and gives those records. So no two records share bytes; and the checked reading passes exactly what begins with a sealed section.
-- Assumes nothing.
use mathlib.Core.Path.{◌≡◌, refl, sym, ap, ◌∙◌}
use mathlib.Core.Logic.{◌↔◌}
use Prim.Native.Nat.{ℕ, ◌+◌, ◌-◌, ◌≤◌}
use native.Mathlib.Omega.{arith}
use mathlib.Core.List.{List, [], ◌++◌, map, append_assoc}
use lib.ListN.{length, take, length-append, length-take}
use Rattle.wire.specs.Lists.{Bytes}
use Rattle.wire.specs.Numbers.{bytes32}
use Rattle.length_field.specs.Lengths.{longest, length_bytes, length_at, block_bytes, block_at, block_end, long_row}
use Rattle.wire.specs.Runs.{each_row, in_order}
use Rattle.wire.proofs.Lists.{bytes-append}
use Rattle.wire.proofs.Words.{bytes32-bytes}
use Rattle.length_field.proofs.Blocks.{block-length, block-bytes, block_up, BlockRead, block_back, block-rebuild, block-fits}
use Rattle.wire.proofs.RunLaws as runs
use Rattle.wire.proofs.Verdicts.{then-fine, fine-then, passed-ltb, pass-ltb}
use Rattle.crc.specs.Crc.{crc_of}
use Rattle.crc.proofs.Ending.{crc-lt}
use Rattle.section_header.specs.Syntax.{header_bytes}
use Rattle.frame.specs.Syntax.{uncounted, crc_length}
use Rattle.frame.specs.Reading.{declared, payload_end}
use Rattle.frame.specs.declared.Demands.{Demands}
use Rattle.frame.proofs.Opening.{Opened, opened-back}
use Rattle.frame.proofs.Readings as readings
use Rattle.frame.proofs.Tables as tables
use Rattle.rnt.specs.declared.RntHeader.{RntHeader}
use Rattle.rnt.specs.Syntax.{common_place, shortest, rnt, Section, provider_bytes, head_bytes, payload, section_length, section_bytes, sealed, ProviderFits, Fits}
use Rattle.rnt.specs.Reading.{provider_at, provider_places, section_at, provider_verdict, common_row, payload_verdict, reading, plain, checked}
use Rattle.rnt.proofs.Head.{head-rebuild, rnt-header-fits, head_bytes_lem, HeadRead, head-back}
use Rattle.rnt.proofs.Providers.{provider-back, provider-rebuilds, provider-bytes}
use Rattle.wire.specs.Verdict.{Fine}

-- ---- lengths

pub length-payload : (s : Section) → length (payload s) ≡ 2 + length s.common.body + length (in_order provider_bytes s.providers)
unfolding payload
length-payload s = omega (arith, length-append (block_bytes s.common) (in_order provider_bytes s.providers), block-length s.common)

pub length-head : (s : Section) → length (head_bytes s.header (section_length s)) ≡ common_place
unfolding head_bytes header_bytes length_bytes
length-head s = refl

pub length-section : (s : Section) → length (section_bytes s) + crc_length ≡ uncounted + section_length s
unfolding section_bytes section_length
length-section s = omega (arith, length-head s, length-append (head_bytes s.header (section_length s)) (payload s))

-- no section is shorter than the table's smallest, and one with no common descriptors and no providers is just that
pub shortest-least : (s : Section) → shortest ≤ section_length s
unfolding section_length
shortest-least s = omega (arith, length-payload s)

pub shortest-is : (s : Section) → s.common.body ≡ [] → s.providers ≡ [] → section_length s ≡ shortest
unfolding section_length
shortest-is s e f = omega (arith, length-payload s, ap length e, ap (λ l. length (in_order provider_bytes l)) f)

-- ---- the common descriptors' row

pub common-passed : (xs : List ℕ) → common_place + 2 ≤ payload_end xs → common_row xs ≡ Fine → block_end xs common_place ≤ payload_end xs
unfolding common_row long_row
common-passed xs h v = omega (arith, passed-ltb (payload_end xs - (common_place + 2)) (length_at xs common_place) _ _ _ v)

pub common-pass : (xs : List ℕ) → block_end xs common_place ≤ payload_end xs → common_row xs ≡ Fine
unfolding common_row long_row
common-pass xs h = pass-ltb (payload_end xs - (common_place + 2)) (length_at xs common_place) _ _ _ (omega arith)

-- ---- rebuild

pub record Accepted (d : Demands) (xs : List ℕ) : Type 0 where
  pub frame : Opened rnt d xs
  pub common : block_end xs common_place ≤ payload_end xs
  pub providers_fine : each_row (provider_verdict xs (payload_end xs)) (provider_places xs) ≡ Fine

pub accepted : (d : Demands) (xs : List ℕ) → reading d xs ≡ Fine → Accepted d xs
unfolding payload_verdict
accepted d xs v =
    let o = readings.reading-opened rnt payload_verdict d xs v in
    let two = then-fine (common_row xs) _ (readings.reading-passed rnt payload_verdict d xs v) in
    record { frame = o; common = common-passed xs (omega (arith, o.large)) two.0; providers_fine = two.1 }

module _ (d : Demands) (xs : List ℕ) (b : Bytes xs) (a : Accepted d xs) where
  all : runs.RunRebuilt xs (payload_end xs) (block_end xs) (block_up xs) (provider_verdict xs (payload_end xs)) (provider_at xs) provider_bytes ProviderFits (block_end xs common_place)
  all = runs.run-rebuilt xs (payload_end xs) (block_end xs) (block_up xs) (provider_verdict xs (payload_end xs)) (provider_at xs) provider_bytes ProviderFits
      (provider-rebuilds xs (payload_end xs) b (omega (arith, a.frame.within))) (block_end xs common_place) a.common a.providers_fine

  payload-rebuild : take common_place xs ++ payload (section_at xs) ≡ take (payload_end xs) xs
  unfolding payload section_at
  payload-rebuild =
      sym (append_assoc (take common_place xs) (block_bytes (block_at xs common_place)) (in_order provider_bytes (map (provider_at xs) (provider_places xs))))
      ∙ ap (λ l. l ++ in_order provider_bytes (map (provider_at xs) (provider_places xs))) (block-rebuild xs common_place b (omega (arith, a.common, a.frame.within))) ∙ all.same

  length_is : section_length (section_at xs) ≡ declared xs
  unfolding section_length
  length_is = omega (arith, simp (length-append, length-take) at (ap length payload-rebuild), a.frame.large, a.frame.within)

  section-fits : Fits d (section_at xs)
  unfolding section_at
  section-fits =
      record {
        header = rnt-header-fits xs b;
        common = block-fits xs common_place b (omega (arith, a.common, a.frame.within));
        providers = all.fit;
        indicated = a.frame.indicated;
        fits = rw length_is a.frame.limited;
      }

  -- the records that were read are written as the bytes up to the CRC
  section-same : section_bytes (section_at xs) ≡ take (payload_end xs) xs
  unfolding section_bytes section_at
  section-same = rw (length_is, head-rebuild xs b a.frame.id_is (omega (arith, a.frame.large, a.frame.within))) payload-rebuild

-- the records of an accepted section fit, and are written as its bytes up to the CRC
pub rebuilt : (d : Demands) (xs : List ℕ) → Bytes xs → reading d xs ≡ Fine → tables.Rebuilt rnt payload_verdict section_bytes section_at Fits d xs
rebuilt d xs b v = let a = accepted d xs v in record { same = section-same d xs b a; fits = section-fits d xs b a }

-- ---- read back

read-from : (d : Demands) (s : Section) (xs tail : List ℕ) → Fits d s → crc_length ≤ length tail → HeadRead s.header (section_length s) xs (payload s ++ tail)
    → (reading d xs ≡ Fine) × (section_at xs ≡ s)
unfolding payload_verdict section_at section_length payload
read-from d s xs tail f t hd = (passed, λ i. record { header = hd.header i; common = common.same i; providers = all.same i })
  where
    providers : List ℕ
    providers = in_order provider_bytes s.providers

    size : length xs ≡ common_place + length (payload s) + length tail
    size = omega (arith, hd.size, length-append (payload s) tail)

    frame : Opened rnt d xs
    frame =
        opened-back rnt d xs s.header.section (section_length s) hd.id_is (ap (λ (h : RntHeader). h.section) hd.header) hd.len_is f.indicated f.fits
        (omega (arith, length-payload s)) (omega (arith, size))

    common : BlockRead xs common_place s.common (providers ++ tail)
    common = block_back xs common_place s.common (providers ++ tail) f.common (hd.rest ∙ append_assoc (block_bytes s.common) providers tail)

    end : block_end xs common_place + length providers ≡ payload_end xs
    end = omega (arith, common.len, hd.len_is, length-payload s)

    all : runs.RunBack xs (payload_end xs) (block_end xs) (block_up xs) (provider_verdict xs (payload_end xs)) (provider_at xs) provider_bytes ProviderFits (block_end xs common_place) s.providers
    all = runs.run-back xs (payload_end xs) (block_end xs) (block_up xs) (provider_verdict xs (payload_end xs)) (provider_at xs) provider_bytes ProviderFits
        (provider-back xs (payload_end xs)) s.providers (block_end xs common_place) tail f.providers common.past end

    passed : reading d xs ≡ Fine
    passed = readings.reading-pass rnt payload_verdict d xs frame (fine-then _ _ (common-pass xs (omega (arith, end))) all.passed)

-- what a section that fits is written as, with four bytes and more behind it, is accepted and read as that section
pub back : (d : Demands) (s : Section) (tail : List ℕ) → d.most ≤ longest → Fits d s → crc_length ≤ length tail
    → tables.Back rnt payload_verdict section_bytes section_at Fits d s (section_bytes s ++ tail)
unfolding section_bytes
back d s tail m f t = record { passed = r.0; same = r.1; end = omega (arith, hd.len_is, length-section s) }
  where
    hd : HeadRead s.header (section_length s) (section_bytes s ++ tail) (payload s ++ tail)
    hd = rw append_assoc (head-back s.header (section_length s) (payload s ++ tail) f.header (omega (arith, f.fits)))

    r : (reading d (section_bytes s ++ tail) ≡ Fine) × (section_at (section_bytes s ++ tail) ≡ s)
    r = read-from d s (section_bytes s ++ tail) tail f t hd

-- ---- what follows, by frame's laws of any table

abbrev pub Written : Demands → List ℕ → Type 0
Written = tables.Written rnt payload_verdict section_bytes section_at Fits

abbrev pub Sealed : List ℕ → Type 0
Sealed = tables.Sealed rnt payload_verdict section_bytes section_at Fits

pub accepted-iff : (d : Demands) (xs : List ℕ) → d.most ≤ longest → Bytes xs → (reading d xs ≡ Fine) ↔ Written d xs
accepted-iff = tables.accepted-iff rnt payload_verdict section_bytes section_at Fits (omega arith) rebuilt back

pub one-section : (d : Demands) (s r : Section) (a b : List ℕ) → d.most ≤ longest → Fits d s → Fits d r → section_bytes s ++ a ≡ section_bytes r ++ b → s ≡ r
one-section = tables.one-section rnt payload_verdict section_bytes section_at Fits (omega arith) rebuilt back

-- fine exactly if the plain reading is, section_syntax_indicator is set, the length is within the limit, and the stored CRC is the
-- computed one
pub checked-iff : (xs : List ℕ) → (checked xs ≡ Fine) ↔ readings.Checks rnt payload_verdict xs
checked-iff = readings.checked-iff rnt payload_verdict

pub checked-exactly : (xs : List ℕ) → Bytes xs → (checked xs ≡ Fine) ↔ Sealed xs
checked-exactly = tables.checked-exactly rnt payload_verdict section_bytes section_at Fits (omega arith) rebuilt back

-- ---- a section that fits, with its CRC, is made of bytes

pub sealed-bytes : (d : Demands) (s : Section) → d.most ≤ longest → Fits d s → Bytes (sealed s)
unfolding sealed section_bytes payload
sealed-bytes d s m f =
    bytes-append (section_bytes s) (bytes32 (crc_of (section_bytes s)))
    (bytes-append (head_bytes s.header (section_length s)) (payload s) (head_bytes_lem s.header (section_length s) f.header (omega (arith, f.fits)))
    (bytes-append (block_bytes s.common) (in_order provider_bytes s.providers) (block-bytes s.common f.common) (runs.order-bytes provider_bytes ProviderFits provider-bytes s.providers f.providers)))
    (bytes32-bytes (crc_of (section_bytes s)) (crc-lt (section_bytes s)))
