-- The header: what is read from a section's first bytes, written, is those bytes, and what was written is read.
-- Assumes nothing.
use mathlib.Core.Path.{◌≡◌, refl, sym, ap, ◌∙◌}
use Prim.Native.Nat.{ℕ, ◌+◌, ◌*◌, ◌/◌, ◌%◌, ◌≤◌, ◌<◌}
use native.Mathlib.Omega.{arith}
use mathlib.Core.Bool.{Bool}
use mathlib.Core.List.{List, [], ◌∷◌, ◌++◌}
use lib.ListN.{length, take, drop, get_or}
use Rattle.wire.specs.Choice.{bit}
use Rattle.wire.specs.Lists.{Bytes, firsts}
use Rattle.wire.specs.Numbers.{bytes16}
use Rattle.length_field.specs.Lengths.{longest, length_bytes}
use Rattle.wire.proofs.Lists.{bytes-at, bytes-append, firsts-part}
use Rattle.wire.proofs.Words.{word16-back, word16-high, word16-low}
use Rattle.section_header.specs.Syntax.{header_bytes}
use Rattle.section_header.specs.Reading.{header_at}
use Rattle.frame.specs.Reading.{declared}
use Rattle.section_header.proofs.HeaderLaws.{header-rebuild, header-fits, header-bytes, HeaderRead, header-back, new-bytes, new-fits}
use Rattle.field.specs.Fields.{version_number}
use Rattle.rct.specs.declared.RctHeader.{RctHeader}
use Rattle.rct.specs.Syntax.{table_id, head_length, new_rct_header, head_bytes, RctHeaderFits}
use Rattle.rct.specs.Reading.{rct_header_at, count_at}

-- ---- what is read, written

pub head-rebuild : (xs : List ℕ) → Bytes xs → get_or xs 0 0 ≡ table_id → head_length ≤ length xs → head_bytes (rct_header_at xs) (declared xs) (count_at xs) ≡ take head_length xs
unfolding head_bytes
head-rebuild xs b z l =
    rw (header-rebuild xs b, ← z)
    ((λ i. get_or xs 0 0 ∷ firsts 7 xs 1 ++ hi i ∷ lo i ∷ get_or xs 10 0 ∷ []) ∙ firsts-part head_length xs 0 (omega arith))
  where
    hi : (get_or xs 8 0 * 256 + get_or xs 9 0) / 256 ≡ get_or xs 8 0
    hi = word16-high (get_or xs 8 0) (get_or xs 9 0) (bytes-at xs 9 b)

    lo : (get_or xs 8 0 * 256 + get_or xs 9 0) % 256 ≡ get_or xs 9 0
    lo = word16-low (get_or xs 8 0) (get_or xs 9 0) (bytes-at xs 9 b)

pub rct-header-fits : (xs : List ℕ) → Bytes xs → RctHeaderFits (rct_header_at xs)
rct-header-fits xs b = record { section = header-fits xs b; year = omega (arith, bytes-at xs 8 b, bytes-at xs 9 b) }

pub head_bytes_lem : (h : RctHeader) (len count : ℕ) → RctHeaderFits h → len ≤ longest → count < 256 → Bytes (head_bytes h len count)
unfolding head_bytes
head_bytes_lem h len count f l c =
    let front = bytes-append (header_bytes h.section len) (bytes16 h.year_offset) (header-bytes h.section len f.section l) (omega (arith, f.year), (omega arith, tt)) in
    (omega arith, bytes-append (header_bytes h.section len ++ bytes16 h.year_offset) (count ∷ []) front (c, tt))

-- ---- what was written, read

pub record HeadRead (h : RctHeader) (len count : ℕ) (xs ys : List ℕ) : Type 0 where
  pub header : rct_header_at xs ≡ h
  pub len_is : declared xs ≡ len
  pub count_is : count_at xs ≡ count
  pub id_is : get_or xs 0 0 ≡ table_id
  pub rest : drop head_length xs ≡ ys
  pub size : length xs ≡ head_length + length ys

pub head-back : (h : RctHeader) (len count : ℕ) (ys : List ℕ) → RctHeaderFits h → len ≤ longest → HeadRead h len count (head_bytes h len count ++ ys) ys
unfolding head_bytes header_bytes length_bytes
head-back h len count ys f l =
    let s = header-back table_id h.section len (h.year_offset / 256 ∷ h.year_offset % 256 ∷ count ∷ ys) f.section l in
    record {
      header = λ i. record { section = s.header i; year_offset = word16-back h.year_offset i };
      len_is = s.len_is;
      count_is = refl;
      id_is = refl;
      rest = refl;
      size = omega arith;
    }

-- ---- a new header: the indicator and the reserved bits are ones, and each argument stands in its own field

pub new-head : (flag : Bool) (service version : ℕ) (current : Bool) (number last year len count : ℕ)
    → head_bytes (new_rct_header flag service version current number last year) len count
    ≡ 0x76 ∷ ((8 + bit flag * 4 + 3) * 16 + len / 256) ∷ (len % 256) ∷ (service / 256) ∷ (service % 256) ∷ (3 * 64 + version * 2 + bit current) ∷ number ∷ last
    ∷ (year / 256) ∷ (year % 256) ∷ count ∷ []
unfolding head_bytes
new-head flag service version current number last year len count = rw (new-bytes flag service version current number last len)

pub new-head-fits : (flag : Bool) (service version : ℕ) (current : Bool) (number last year : ℕ)
    → service < 65536 → version ≤ version_number.widest → number < 256 → last < 256 → year < 65536
    → RctHeaderFits (new_rct_header flag service version current number last year)
new-head-fits flag service version current number last year hs hv hn hl hy =
    record { section = new-fits flag service version current number last hs hv hn hl; year = hy }
