-- Bytes 1 to 7: what is read from them, written, is those bytes; what was written is read; and where each argument of a new header stands.
-- Assumes nothing.
use mathlib.Core.Path.{◌≡◌, refl}
use Prim.Native.Nat.{ℕ, ◌+◌, ◌*◌, ◌/◌, ◌%◌, ◌≤◌, ◌<◌}
use native.Mathlib.Omega.{arith}
use mathlib.Core.Bool.{Bool, true, false}
use mathlib.Core.List.{List, [], ◌∷◌, ◌++◌}
use lib.Dec.{eqb}
use lib.ListN.{length, drop, get_or}
use Rattle.wire.specs.Choice.{bit}
use Rattle.wire.specs.Lists.{Bytes, firsts}
use Rattle.wire.specs.Numbers.{be16}
use Rattle.length_field.specs.Lengths.{longest, length_bytes, length_at, beside_of, beside_at}
use Rattle.wire.specs.Refusals.{too_wide, no_syntax_indicator}
use Rattle.wire.specs.Verdict.{bad, ◌▷◌, Fine}
use Rattle.wire.proofs.Among.{Among, among-row, among_then, among-more}
use Rattle.wire.proofs.Lists.{bytes-at}
use Rattle.wire.proofs.Verdicts.{then-fine, fine-then, go_on, stop, due-passed, due-pass, due-broken}
use Rattle.wire.proofs.Words.{word16-back, word16-high, word16-low, bit-small, bit-back, bit-rebuild}
use Rattle.field.specs.Fields.{low, section_reserved, version_number, version_reserved, check_field}
use Rattle.field.proofs.Checks.{field-listed, field-passed, field-pass, low-whole}
use Rattle.section_header.specs.Syntax.{front_length, first_bits, version_byte, header_bytes, HeaderFits, header_of, new_header}
use Rattle.section_header.specs.Reading.{syntax_indicator, header_at, no_header}
use Rattle.section_header.specs.Checks.{indicator_row, check_header, narrowed}
use Rattle.section_header.specs.declared.SectionHeader.{SectionHeader}

-- ---- what is read, written

pub header-rebuild : (xs : List ℕ) → Bytes xs → header_bytes (header_at xs) (length_at xs 1) ≡ firsts 7 xs 1
unfolding header_bytes length_bytes
header-rebuild xs b = λ i. p1 i ∷ p2 i ∷ hi i ∷ lo i ∷ p5 i ∷ get_or xs 6 0 ∷ get_or xs 7 0 ∷ []
  where
    nibble : first_bits (header_at xs) ≡ beside_at xs 1
    nibble = rw (bit-rebuild (get_or xs 1 0 / 128) (omega (arith, bytes-at xs 1 b)), bit-rebuild (beside_at xs 1 / 4 % 2) (omega arith)) (omega (arith, bytes-at xs 2 b))

    p1 : first_bits (header_at xs) * 16 + length_at xs 1 / 256 ≡ get_or xs 1 0
    p1 = omega (arith, nibble, bytes-at xs 2 b)

    p2 : length_at xs 1 % 256 ≡ get_or xs 2 0
    p2 = omega (arith, bytes-at xs 2 b)

    hi : be16 xs 3 / 256 ≡ get_or xs 3 0
    hi = word16-high (get_or xs 3 0) (get_or xs 4 0) (bytes-at xs 4 b)

    lo : be16 xs 3 % 256 ≡ get_or xs 4 0
    lo = word16-low (get_or xs 3 0) (get_or xs 4 0) (bytes-at xs 4 b)

    p5 : version_byte (header_at xs) ≡ get_or xs 5 0
    p5 =
        let highest : low version_reserved (get_or xs 5 0 / 64) ≡ get_or xs 5 0 / 64 = omega (arith, bytes-at xs 5 b) in
        rw (highest, bit-rebuild (get_or xs 5 0 % 2) (omega arith)) (omega arith)

pub header-fits : (xs : List ℕ) → Bytes xs → HeaderFits (header_at xs)
header-fits xs b =
    let b5 = bytes-at xs 5 b in
    record {
      reserved1 = omega arith;
      extension = omega (arith, bytes-at xs 3 b, bytes-at xs 4 b);
      reserved5 = omega arith;
      version = omega arith;
      number = bytes-at xs 6 b;
      last = bytes-at xs 7 b;
    }

-- the header is that of bytes 1 and 3 to 7: the length's low byte has no part in it
pub header-six : (xs : List ℕ) → Bytes xs → header_at (0 ∷ get_or xs 1 0 ∷ 0 ∷ get_or xs 3 0 ∷ get_or xs 4 0 ∷ get_or xs 5 0 ∷ get_or xs 6 0 ∷ get_or xs 7 0 ∷ []) ≡ header_at xs
header-six xs b =
    let bits : beside_of (get_or xs 1 0) (get_or xs 2 0) ≡ beside_of (get_or xs 1 0) 0 = omega (arith, bytes-at xs 2 b) in
    rw bits

pub length-header : (h : SectionHeader) (len : ℕ) → length (header_bytes h len) ≡ 7
unfolding header_bytes length_bytes
length-header h len = refl

pub header-bytes : (h : SectionHeader) (len : ℕ) → HeaderFits h → len ≤ longest → Bytes (header_bytes h len)
unfolding header_bytes length_bytes
header-bytes h len f l =
    let s = bit-small h.section_syntax_indicator in
    let e = bit-small h.private_indicator in
    let v = bit-small h.current_next_indicator in
    (omega arith, (omega arith, (omega arith, (omega arith, (omega arith, (f.number, (f.last, tt)))))))

-- ---- what was written behind a table_id, read

pub record HeaderRead (h : SectionHeader) (len : ℕ) (xs ys : List ℕ) : Type 0 where
  pub header : header_at xs ≡ h
  pub len_is : length_at xs 1 ≡ len
  pub rest : drop front_length xs ≡ ys
  pub size : length xs ≡ front_length + length ys

pub header-back : (id : ℕ) (h : SectionHeader) (len : ℕ) (ys : List ℕ) → HeaderFits h → len ≤ longest → HeaderRead h len (id ∷ header_bytes h len ++ ys) ys
unfolding header_bytes length_bytes
header-back id h len ys f l =
    record {
      header = λ i. header_of (syntax i) (private i) (reserved1 i) (word16-back h.table_id_extension i) (reserved5 i) (version i) (current i) h.section_number h.last_section_number;
      len_is = omega arith;
      rest = refl;
      size = omega arith;
    }
  where
    first : ℕ
    first = beside_of (first_bits h * 16 + len / 256) (len % 256)

    nibble : first ≡ first_bits h
    nibble = omega (arith, l)

    syntax : syntax_indicator (first_bits h * 16 + len / 256) ≡ h.section_syntax_indicator
    syntax = bit-back h.section_syntax_indicator ((first_bits h * 16 + len / 256) / 128) (omega (arith, l, f.reserved1, bit-small h.private_indicator))

    private : eqb (first / 4 % 2) 1 ≡ h.private_indicator
    private = bit-back h.private_indicator (first / 4 % 2) (omega (arith, nibble, f.reserved1, bit-small h.private_indicator))

    reserved1 : low section_reserved first ≡ h.reserved_b1
    reserved1 = omega (arith, nibble, f.reserved1)

    reserved5 : low version_reserved (version_byte h / 64) ≡ h.reserved_b5
    reserved5 = omega (arith, f.version, f.reserved5, bit-small h.current_next_indicator)

    version : low version_number (version_byte h / 2) ≡ h.version_number
    version = omega (arith, f.version, bit-small h.current_next_indicator)

    current : eqb (version_byte h % 2) 1 ≡ h.current_next_indicator
    current = bit-back h.current_next_indicator (version_byte h % 2) (omega (arith, bit-small h.current_next_indicator))

-- ---- a new header: the syntax indicator and the reserved bits are ones, and each argument stands in its own field

pub new-bytes : (private : Bool) (extension version : ℕ) (current : Bool) (number last len : ℕ)
    → header_bytes (new_header private extension version current number last) len
    ≡ ((8 + bit private * 4 + 3) * 16 + len / 256) ∷ (len % 256) ∷ (extension / 256) ∷ (extension % 256) ∷ (3 * 64 + version * 2 + bit current) ∷ number ∷ last ∷ []
unfolding header_bytes length_bytes
new-bytes private extension version current number last len = refl

pub new-fits : (private : Bool) (extension version : ℕ) (current : Bool) (number last : ℕ)
    → extension < 65536 → version ≤ version_number.widest → number < 256 → last < 256
    → HeaderFits (new_header private extension version current number last)
new-fits private extension version current number last he hv hn hl =
    record { reserved1 = omega arith; extension = he; reserved5 = omega arith; version = hv; number = hn; last = hl }

-- the header of nothing, spelt out: zeros
abbrev pub zero_header : SectionHeader
zero_header =
    record {
      section_syntax_indicator = false;
      private_indicator = false;
      reserved_b1 = 0;
      table_id_extension = 0;
      reserved_b5 = 0;
      version_number = 0;
      current_next_indicator = false;
      section_number = 0;
      last_section_number = 0;
    }

pub none-zeros : no_header ≡ zero_header
none-zeros = refl

-- ---- the check

pub record Narrow (h : SectionHeader) : Type 0 where
  pub reserved1 : h.reserved_b1 ≤ section_reserved.widest
  pub version : h.version_number ≤ version_number.widest
  pub reserved5 : h.reserved_b5 ≤ version_reserved.widest

-- which headers are written
pub record Written (h : SectionHeader) : Type 0 where
  pub indicated : h.section_syntax_indicator ≡ true
  pub narrow : Narrow h

-- the indicator's row: passed exactly if it is set, and else 38 (0, 0)
pub indicator-passed : (h : SectionHeader) → indicator_row h ≡ Fine → h.section_syntax_indicator ≡ true
indicator-passed h v = due-passed true h.section_syntax_indicator _ _ _ v refl

pub indicator-pass : (h : SectionHeader) → h.section_syntax_indicator ≡ true → indicator_row h ≡ Fine
indicator-pass h e = due-pass true h.section_syntax_indicator _ _ _ (λ u. e)

pub indicator-broken : (h : SectionHeader) → h.section_syntax_indicator ≡ false → indicator_row h ≡ bad 38 0 0
indicator-broken h e = due-broken true h.section_syntax_indicator _ _ _ refl e

pub header-passed : (h : SectionHeader) → check_header h ≡ Fine → Written h
unfolding check_header
header-passed h v =
    let one = then-fine _ _ v in
    let two = then-fine _ _ one.1 in
    let three = then-fine _ _ two.1 in
    record {
      indicated = indicator-passed h one.0;
      narrow = record { reserved1 = field-passed section_reserved _ two.0; version = field-passed version_number _ three.0; reserved5 = field-passed version_reserved _ three.1 };
    }

pub header-pass : (h : SectionHeader) → Written h → check_header h ≡ Fine
unfolding check_header
header-pass h w =
    let n = w.narrow in
    fine-then _ _ (indicator-pass h w.indicated)
    (fine-then _ _ (field-pass section_reserved _ n.reserved1) (fine-then _ _ (field-pass version_number _ n.version) (field-pass version_reserved _ n.reserved5)))

-- without the syntax indicator it answers 38 (0, 0), whatever else is wrong
pub header-unindicated : (h : SectionHeader) → h.section_syntax_indicator ≡ false → check_header h ≡ bad 38 0 0
unfolding check_header
header-unindicated h e = stop _ _ _ _ _ (indicator-broken h e)

-- with it, what the narrow fields' rows answer
pub header-ranks : (h : SectionHeader) → h.section_syntax_indicator ≡ true
    → check_header h ≡ check_field section_reserved h.reserved_b1 ▷ check_field version_number h.version_number ▷ check_field version_reserved h.reserved_b5
unfolding check_header
header-ranks h e = go_on _ _ (indicator-pass h e)

-- what passes is written whole
pub narrowed-whole : (h : SectionHeader) → Narrow h → narrowed h ≡ h
narrowed-whole h n =
    rw (low-whole section_reserved h.reserved_b1 n.reserved1, low-whole version_reserved h.reserved_b5 n.reserved5, low-whole version_number h.version_number n.version)

-- 38 and 22 are all that it answers
abbrev pub header_checks : List ℕ
header_checks = no_syntax_indicator ∷ too_wide ∷ []

pub header-listed : (h : SectionHeader) → Among header_checks (check_header h)
unfolding check_header
header-listed h =
    among_then header_checks _ _ (among-row header_checks _ no_syntax_indicator 0 0 refl)
    (among-more (too_wide ∷ []) header_checks _ refl (among_then (too_wide ∷ []) _ _ (field-listed _ _) (among_then (too_wide ∷ []) _ _ (field-listed _ _) (field-listed _ _))))
