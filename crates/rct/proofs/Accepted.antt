-- A reading accepts exactly what the syntax writes. Rebuild: the records of an accepted section fit, and are written as the bytes that were read. Read back: what records that fit are written as is accepted, and gives those records. What follows from the two is frame's, of any table: accepted exactly, and no two records share bytes.
-- Assumes nothing.
use mathlib.Core.Path.{◌≡◌, refl, sym, ap, ◌∙◌}
use mathlib.Core.Logic.{◌↔◌}
use Prim.Native.Nat.{ℕ, ◌+◌, ◌-◌, ◌≤◌}
use native.Mathlib.Omega.{arith}
use mathlib.Core.List.{List, [], ◌++◌, append_assoc}
use lib.ListN.{length, take, drop, length-append, length-take}
use lib.Seq.{take_at}
use Rattle.wire.specs.Lists.{Bytes}
use Rattle.length_field.specs.Lengths.{longest, length_bytes, block_bytes, block_at, block_end}
use Rattle.wire.proofs.Lists.{bytes-at}
use Rattle.length_field.proofs.Blocks.{block-length, BlockRead, block_back, block-rebuild, block-fits, last-pass, last-passed}
use Rattle.wire.specs.Refusals.{loop_cut, loop_too_long, section_slack}
use Rattle.wire.proofs.Verdicts.{then-fine, fine-then}
use Rattle.section_header.specs.Syntax.{header_bytes}
use Rattle.frame.specs.Syntax.{uncounted, crc_length, least}
use Rattle.frame.specs.Reading.{declared, total_of, payload_end}
use Rattle.frame.specs.declared.Demands.{Demands}
use Rattle.frame.proofs.Opening.{Opened, opened-back}
use Rattle.frame.proofs.Readings.{reading-opened, reading-passed, reading-pass}
use Rattle.frame.proofs.Tables as tables
use Rattle.rct.specs.declared.RctHeader.{RctHeader}
use Rattle.rct.specs.Syntax.{head_length, shortest, rct, Section, head_bytes, links_bytes, payload, section_length, full_length, section_bytes, entry_place, Fits}
use Rattle.rct.specs.Reading.{count_at, after, links_at, link_place, loop_place, section_at, links_verdict, payload_verdict, reading}
use Rattle.rct.proofs.Head.{head-rebuild, rct-header-fits, HeadRead, head-back}
use Rattle.rct.proofs.Links.{length-links_at, Walked, walked, place_of, LinksRead, links-back}
use Rattle.wire.specs.Verdict.{Fine}

-- ---- lengths

pub length-payload : (s : Section) → length (payload s) ≡ length (links_bytes s.links) + 2 + length s.loop.body
unfolding payload
length-payload s = omega (arith, length-append (links_bytes s.links) (block_bytes s.loop), block-length s.loop)

pub length-head : (s : Section) → length (head_bytes s.header (section_length s) (length s.links)) ≡ head_length
unfolding head_bytes header_bytes length_bytes
length-head s = refl

pub length-section : (s : Section) → length (section_bytes s) + crc_length ≡ full_length s
unfolding section_bytes section_length
length-section s = omega (arith, length-head s, length-append (head_bytes s.header (section_length s) (length s.links)) (payload s))

-- no section is shorter than the table's smallest, and one with no links and an empty loop is just that
pub shortest-least : (s : Section) → shortest ≤ section_length s
unfolding section_length
shortest-least s = omega (arith, length-payload s)

pub shortest-is : (s : Section) → s.links ≡ [] → s.loop.body ≡ [] → section_length s ≡ shortest
unfolding section_length
shortest-is s e f = omega (arith, length-payload s, ap (λ l. length (links_bytes l)) e, ap length f)

-- ---- rebuild

pub record Accepted (d : Demands) (xs : List ℕ) : Type 0 where
  pub frame : Opened rct d xs
  pub links_fine : links_verdict (count_at xs) xs (payload_end xs) head_length ≡ Fine
  pub walked_links : Walked (count_at xs) xs (payload_end xs) head_length
  pub loop_end : block_end xs (loop_place xs) ≡ payload_end xs

module _ (d : Demands) (xs : List ℕ) (b : Bytes xs) where
  pub accepted : reading d xs ≡ Fine → Accepted d xs
  unfolding payload_verdict
  accepted v =
      let o = reading-opened rct payload_verdict d xs v in
      let two = then-fine (links_verdict (count_at xs) xs (payload_end xs) head_length) _ (reading-passed rct payload_verdict d xs v) in
      record {
        frame = o;
        links_fine = two.0;
        walked_links = walked (count_at xs) xs (payload_end xs) head_length b (omega (arith, o.within)) (omega (arith, o.large)) two.0;
        loop_end = last-passed loop_cut loop_too_long section_slack xs (payload_end xs) (loop_place xs) two.1;
      }

  module _ (a : Accepted d xs) where
    pub payload-rebuild : take head_length xs ++ payload (section_at xs) ≡ take (payload_end xs) xs
    unfolding payload section_at
    payload-rebuild =
        sym (append_assoc (take head_length xs) (links_bytes (links_at (count_at xs) xs head_length)) (block_bytes (block_at xs (loop_place xs))))
        ∙ ap (λ r. r ++ block_bytes (block_at xs (loop_place xs))) a.walked_links.same
        ∙ block-rebuild xs (loop_place xs) b (omega (arith, a.loop_end, a.frame.within))
        ∙ ap (λ k. take k xs) a.loop_end

    pub length_is : section_length (section_at xs) ≡ declared xs
    unfolding section_length
    length_is = omega (arith, simp (length-append, length-take) at (ap length payload-rebuild), a.frame.large, a.frame.within)

  -- the records that were read are written as the bytes up to the CRC
  pub rebuild : reading d xs ≡ Fine → section_bytes (section_at xs) ≡ take (payload_end xs) xs
  unfolding section_bytes section_at
  rebuild v =
      let a = accepted v in
      rw (length_is a, length-links_at, head-rebuild xs b a.frame.id_is (omega (arith, a.frame.large, a.frame.within))) (payload-rebuild a)

  -- where the walk finds link k, and behind the last one the loop, is where the syntax puts it; and so is the end
  pub place_is : reading d xs ≡ Fine → (k : ℕ) → k ≤ count_at xs → link_place xs k ≡ entry_place (section_at xs) k
  unfolding section_at
  place_is v k h =
      let a = accepted v in
      place_of (count_at xs) k xs (payload_end xs) head_length b (omega (arith, a.frame.within)) a.links_fine h

  pub total-is : reading d xs ≡ Fine → total_of xs ≡ full_length (section_at xs)
  total-is v = ap (λ n. uncounted + n) (sym (length_is (accepted v)))

  -- and they fit
  pub accepted-fits : reading d xs ≡ Fine → Fits d (section_at xs)
  unfolding section_at
  accepted-fits v =
      let a = accepted v in
      record {
        header = rct-header-fits xs b;
        count = rw length-links_at (bytes-at xs 10 b);
        links = a.walked_links.fit;
        loop = block-fits xs (loop_place xs) b (omega (arith, a.loop_end, a.frame.within));
        indicated = a.frame.indicated;
        fits = rw (length_is a) a.frame.limited;
      }

-- ---- read back

pub record ReadBack (d : Demands) (s : Section) (xs : List ℕ) : Type 0 where
  pub passed : reading d xs ≡ Fine
  pub same : section_at xs ≡ s
  pub total : total_of xs ≡ full_length s
  pub bytes : take (payload_end xs) xs ≡ section_bytes s

read-from : (d : Demands) (s : Section) (xs tail : List ℕ) → Fits d s → crc_length ≤ length tail
    → HeadRead s.header (section_length s) (length s.links) xs (payload s ++ tail) → (reading d xs ≡ Fine) × (section_at xs ≡ s)
unfolding payload_verdict section_at section_length payload
read-from d s xs tail f t hd = (passed, λ i. record { header = hd.header i; links = links_ok i; loop = loop.same i })
  where
    size : length xs ≡ head_length + length (payload s) + length tail
    size = omega (arith, hd.size, length-append (payload s) tail)

    frame : Opened rct d xs
    frame =
        opened-back rct d xs s.header.section (section_length s) hd.id_is (ap (λ (h : RctHeader). h.section) hd.header) hd.len_is f.indicated f.fits
        (omega (arith, length-payload s)) (omega (arith, size))

    links : LinksRead s.links xs (payload_end xs) head_length (block_bytes s.loop ++ tail)
    links = links-back s.links xs (payload_end xs) head_length (block_bytes s.loop ++ tail) f.links
        (hd.rest ∙ append_assoc (links_bytes s.links) (block_bytes s.loop) tail) (omega (arith, hd.len_is, length-payload s))

    place : loop_place xs ≡ after (length s.links) xs head_length
    place = ap (λ n. after n xs head_length) hd.count_is

    loop : BlockRead xs (loop_place xs) s.loop tail
    loop = block_back xs (loop_place xs) s.loop tail f.loop (ap (λ p. drop p xs) place ∙ links.past)

    end : block_end xs (loop_place xs) ≡ payload_end xs
    end = omega (arith, loop.len, place, links.place, hd.len_is, length-payload s)

    passed : reading d xs ≡ Fine
    passed =
        reading-pass rct payload_verdict d xs frame
        (fine-then _ _ (ap (λ n. links_verdict n xs (payload_end xs) head_length) hd.count_is ∙ links.passed) (last-pass loop_cut loop_too_long section_slack xs (payload_end xs) (loop_place xs) end))

    links_ok : links_at (count_at xs) xs head_length ≡ s.links
    links_ok = ap (λ n. links_at n xs head_length) hd.count_is ∙ links.same

pub read_back : (d : Demands) (s : Section) (tail : List ℕ) → d.most ≤ longest → Fits d s → crc_length ≤ length tail → ReadBack d s (section_bytes s ++ tail)
unfolding section_bytes
read_back d s tail m f t =
    record {
      passed = r.0;
      same = r.1;
      total = ap (λ n. uncounted + n) hd.len_is;
      bytes = take_at (section_bytes s) tail (payload_end (section_bytes s ++ tail)) (omega (arith, hd.len_is, length-section s));
    }
  where
    hd : HeadRead s.header (section_length s) (length s.links) (section_bytes s ++ tail) (payload s ++ tail)
    hd = rw append_assoc (head-back s.header (section_length s) (length s.links) (payload s ++ tail) f.header (omega (arith, f.fits)))

    r : (reading d (section_bytes s ++ tail) ≡ Fine) × (section_at (section_bytes s ++ tail) ≡ s)
    r = read-from d s (section_bytes s ++ tail) tail f t hd

-- ---- accepted exactly

-- the two laws, as frame has them of a table
pub rebuilt : (d : Demands) (xs : List ℕ) → Bytes xs → reading d xs ≡ Fine → tables.Rebuilt rct payload_verdict section_bytes section_at Fits d xs
rebuilt d xs b v = record { same = rebuild d xs b v; fits = accepted-fits d xs b v }

pub back : (d : Demands) (s : Section) (tail : List ℕ) → d.most ≤ longest → Fits d s → crc_length ≤ length tail
    → tables.Back rct payload_verdict section_bytes section_at Fits d s (section_bytes s ++ tail)
back d s tail m f t = let r = read_back d s tail m f t in record { passed = r.passed; same = r.same; end = omega (arith, r.total, length-section s) }

-- the smallest section has room for a CRC
pub crc-least : crc_length ≤ least rct
crc-least = omega arith

-- the bytes of a section that fits, then four for its CRC, then whatever follows
abbrev pub Written : Demands → List ℕ → Type 0
Written = tables.Written rct payload_verdict section_bytes section_at Fits

pub accepted-iff : (d : Demands) (xs : List ℕ) → d.most ≤ longest → Bytes xs → (reading d xs ≡ Fine) ↔ Written d xs
accepted-iff = tables.accepted-iff rct payload_verdict section_bytes section_at Fits crc-least rebuilt back

-- no section's bytes begin with another's, whatever follows either
pub one-section : (d : Demands) (s t : Section) (a b : List ℕ) → d.most ≤ longest → Fits d s → Fits d t → section_bytes s ++ a ≡ section_bytes t ++ b → s ≡ t
one-section = tables.one-section rct payload_verdict section_bytes section_at Fits crc-least rebuilt back
