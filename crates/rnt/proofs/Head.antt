-- The header: what is read from a section's first bytes, written, is those bytes, and what was written is read.
-- Assumes nothing.
use mathlib.Core.Path.{◌≡◌, refl}
use Prim.Native.Nat.{ℕ, ◌+◌, ◌≤◌}
use native.Mathlib.Omega.{arith}
use mathlib.Core.List.{List, [], ◌∷◌, ◌++◌}
use lib.ListN.{length, take, drop, get_or}
use Rattle.wire.specs.Lists.{Bytes, firsts}
use Rattle.length_field.specs.Lengths.{longest, length_bytes}
use Rattle.wire.proofs.Lists.{bytes-at, bytes-append, firsts-part}
use Rattle.section_header.specs.Syntax.{header_bytes}
use Rattle.section_header.proofs.HeaderLaws.{header-rebuild, header-fits, header-bytes, header-back}
use Rattle.frame.specs.Reading.{declared}
use Rattle.rnt.specs.declared.RntHeader.{RntHeader}
use Rattle.rnt.specs.Syntax.{table_id, common_place, head_bytes, RntHeaderFits}
use Rattle.rnt.specs.Reading.{rnt_header_at}

-- ---- what is read, written

pub head-rebuild : (xs : List ℕ) → Bytes xs → get_or xs 0 0 ≡ table_id → common_place ≤ length xs → head_bytes (rnt_header_at xs) (declared xs) ≡ take common_place xs
unfolding head_bytes
head-rebuild xs b z l = rw (header-rebuild xs b, ← z) (firsts-part common_place xs 0 (omega arith))

pub rnt-header-fits : (xs : List ℕ) → Bytes xs → RntHeaderFits (rnt_header_at xs)
rnt-header-fits xs b = record { section = header-fits xs b; type = bytes-at xs 8 b }

pub head_bytes_lem : (h : RntHeader) (len : ℕ) → RntHeaderFits h → len ≤ longest → Bytes (head_bytes h len)
unfolding head_bytes
head_bytes_lem h len f l = (omega arith, bytes-append (header_bytes h.section len) (h.context_id_type ∷ []) (header-bytes h.section len f.section l) (f.type, tt))

-- ---- what was written, read

pub record HeadRead (h : RntHeader) (len : ℕ) (xs ys : List ℕ) : Type 0 where
  pub header : rnt_header_at xs ≡ h
  pub len_is : declared xs ≡ len
  pub id_is : get_or xs 0 0 ≡ table_id
  pub rest : drop common_place xs ≡ ys
  pub size : length xs ≡ common_place + length ys

pub head-back : (h : RntHeader) (len : ℕ) (ys : List ℕ) → RntHeaderFits h → len ≤ longest → HeadRead h len (head_bytes h len ++ ys) ys
unfolding head_bytes header_bytes length_bytes
head-back h len ys f l =
    let s = header-back table_id h.section len (h.context_id_type ∷ ys) f.section l in
    record {
      header = λ i. record { section = s.header i; context_id_type = h.context_id_type };
      len_is = s.len_is;
      id_is = refl;
      rest = refl;
      size = omega arith;
    }
