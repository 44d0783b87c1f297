-- A loop that was written is read as what was written, and one of which none is cut off, written again, is the bytes that were read.
-- Assumes nothing.
use mathlib.Core.Path.{◌≡◌, sym, ap, ◌∙◌}
use Prim.Native.Nat.{ℕ, ◌+◌, ◌≤◌, ◌<◌}
use native.Mathlib.Omega.{arith}
use mathlib.Core.List.{List, [], ◌∷◌, ◌++◌}
use lib.ListN.{length, get_or, take, drop, take-append-drop}
use lib.Seq.{length-take-le, drop-drop}
use Rattle.wire.specs.Lists.{Bytes}
use Rattle.wire.proofs.RunLaws.{order-bytes}
use Rattle.wire.proofs.Lists.{bytes-at, bytes_drop, bytes-part, length_part}
use Rattle.descriptors.specs.Syntax.{head_length, Descriptor, descriptor_bytes, DescriptorFits, loop_bytes, LoopFits}
use Rattle.descriptors.specs.Reading.{size_of, descriptor_of, descriptors_of, cut_verdict}
use Rattle.descriptors.proofs.Loops.{over-loops, loop-empty, loop-more, descriptors-more, fine_more}
use Rattle.wire.specs.Verdict.{Fine}

-- ---- what fits is written as bytes

pub descriptor-bytes : (d : Descriptor) → DescriptorFits d → Bytes (descriptor_bytes d)
descriptor-bytes d f = (f.tag, (omega (arith, f.short), f.bytes))

pub loop-bytes : (ds : List Descriptor) → LoopFits ds → Bytes (loop_bytes ds)
loop-bytes = order-bytes descriptor_bytes DescriptorFits descriptor-bytes

-- ---- what was written, read

pub loop-back : (p : ℕ) (ds : List Descriptor) → (descriptors_of (loop_bytes ds) ≡ ds) × (cut_verdict p (loop_bytes ds) ≡ Fine)
loop-back p [] = loop-empty p
loop-back p (d ∷ ds) =
    let more = loop-more d (loop_bytes ds) p in
    let back = loop-back (p + length (descriptor_bytes d)) ds in
    (more.0 ∙ ap (λ r. d ∷ r) back.0, more.1 ∙ back.1)

-- ---- what is read, written

-- the descriptor at the front, where it is whole
pub front-rebuilt : (xs : List ℕ) → size_of xs ≤ length xs → descriptor_bytes (descriptor_of xs) ++ drop (size_of xs) xs ≡ xs
front-rebuilt [] h = absurd (omega arith)
front-rebuilt (x ∷ []) h = absurd (omega arith)
front-rebuilt (x ∷ y ∷ zs) h = λ i. x ∷ len i ∷ rest i
  where
    len : length (take y zs) ≡ y
    len = length-take-le y zs (omega arith)

    rest : take y zs ++ drop (head_length + y) (x ∷ y ∷ zs) ≡ zs
    rest = ap (λ r. take y zs ++ r) (sym (drop-drop y head_length (x ∷ y ∷ zs))) ∙ take-append-drop y zs

pub front_fits : (xs : List ℕ) → Bytes xs → size_of xs ≤ length xs → DescriptorFits (descriptor_of xs)
front_fits xs b h =
    record {
      tag = bytes-at xs 0 b;
      short = omega (arith, bytes-at xs 1 b, length_part xs head_length (get_or xs 1 0) h);
      bytes = bytes-part xs head_length (get_or xs 1 0) b;
    }

-- the loop
pub record Rebuilt (xs : List ℕ) : Type 0 where
  pub same : loop_bytes (descriptors_of xs) ≡ xs
  pub fit : LoopFits (descriptors_of xs)

pub loop-rebuilt : (p : ℕ) (xs : List ℕ) → Bytes xs → cut_verdict p xs ≡ Fine → Rebuilt xs
loop-rebuilt p xs = over-loops (λ ys. (q : ℕ) → Bytes ys → cut_verdict q ys ≡ Fine → Rebuilt ys) none one xs p
  where
    none : (q : ℕ) → Bytes [] → cut_verdict q [] ≡ Fine → Rebuilt []
    none q b v = record { same = ap loop_bytes (loop-empty q).0; fit = rw (loop-empty q).0 tt }

    one : (ys : List ℕ) → 0 < length ys → ((q : ℕ) → Bytes (drop (size_of ys) ys) → cut_verdict q (drop (size_of ys) ys) ≡ Fine → Rebuilt (drop (size_of ys) ys))
        → (q : ℕ) → Bytes ys → cut_verdict q ys ≡ Fine → Rebuilt ys
    one ys h k q b v =
        let two = fine_more ys h q v in
        let more = k (q + size_of ys) (bytes_drop (size_of ys) ys b) two.1 in
        record {
          same = ap loop_bytes (descriptors-more ys h) ∙ ap (λ r. descriptor_bytes (descriptor_of ys) ++ r) more.same ∙ front-rebuilt ys two.0;
          fit = rw (descriptors-more ys h) (front_fits ys b two.0, more.fit);
        }
