-- Rebuild: a locator that was read fits, and its bytes are those that it was read from.
-- Assumes nothing.
use Prim.Native.Nat.{ℕ, zero, suc, ◌+◌, ◌*◌, ◌/◌, ◌%◌, ◌≤◌, ◌<◌}
use mathlib.Core.Path.{◌≡◌, refl, sym, ap, ap₂, ◌∙◌}
use mathlib.Core.Bool.{Bool, true, false}
use mathlib.Core.List.{List, ◌++◌, append_assoc}
use native.Mathlib.Omega.{arith}
use native.Mathlib.Numerals.{add-one, add-two, towards_suc}
use native.Mathlib.Nat.{div-div-eq-div-mul}
use lib.Dec.{eqb}
use lib.ListN.{length, take, get_or}
use lib.Seq.{take-add}
use borrow.Author.Tests.{eqb-true, eqb-false}
use Rattle.wire.specs.Choice.{bit}
use Rattle.field.specs.Fields.{triplet_id, low}
use Rattle.wire.specs.Lists.{Bytes, part, firsts}
use Rattle.wire.specs.Numbers.{bytes16, be16}
use Rattle.wire.proofs.Lists.{bytes-at, firsts-part}
use Rattle.wire.proofs.Words.{word16-high, word16-low}
use Rattle.locator.specs.Syntax.{times_length, type_of, is_inline, last_bits, head_of, service_bytes, identifier_bytes, windows_bytes, locator_bytes, ServiceFits, WindowsFit, are_here, are_due, ServiceCarried, IdentifierCarried, Fits}
use Rattle.locator.specs.Reading.{type_in, reliable, inline, service_end, tail_length, service_at, identifier_at, windows_at, locator_at, size_at, locator_verdict, read_locator, got_locator}
use Rattle.locator.specs.declared.DvbBinaryLocator.{DvbBinaryLocator}
use Rattle.locator.specs.declared.DvbLocatorService.{DvbLocatorService}
use Rattle.locator.specs.declared.DvbLocatorIdentifier.{DvbLocatorIdentifier}
use Rattle.locator.proofs.Answers.{fine-enough, got-had}
use Rattle.locator.specs.Windows.{Windows}
use Rattle.wire.specs.Verdict.{Fine}

-- ---- the head is made of its fields

bit-of : (x : ℕ) → x < 2 → bit (eqb x 1) ≡ x
bit-of x h = go (eqb x 1) refl
  where
    go : (b : Bool) → eqb x 1 ≡ b → bit b ≡ x
    go true e = omega (arith, eqb-true x 1 e)
    go false e = omega (arith, eqb-false x 1 e)

head-fields : (h : ℕ) → h / 0x4000 * 0x4000 + h / 0x2000 % 2 * 0x2000 + h / 0x1000 % 2 * 0x1000 + h / 0x800 % 2 * 0x800 + h / 4 % 512 * 4 + h % 4 ≡ h
head-fields h = omega (arith, div-div-eq-div-mul h 4 512, div-div-eq-div-mul h 0x800 2, div-div-eq-div-mul h 0x1000 2, div-div-eq-div-mul h 0x2000 2)

regroup : (a b c d e f : List ℕ) → a ++ b ++ (c ++ d) ++ (e ++ f) ≡ a ++ b ++ c ++ d ++ e ++ f
regroup a b c d e f = simp append_assoc

-- ---- each field that was read has the bytes that it was read from, and fits

record ServiceIs (v : DvbLocatorService) (inl : Bool) (last : ℕ) : Type 0 where
  inline-is : is_inline v ≡ inl
  last-is : last_bits v ≡ last
  fits : ServiceFits v
  carried : ServiceCarried v

record TailIs (i : DvbLocatorIdentifier) (w : Windows) (bytes : List ℕ) (type : ℕ) (r : Bool) : Type 0 where
  type-is : type_of i ≡ type
  same : identifier_bytes i ++ windows_bytes w ≡ bytes
  fits : WindowsFit w
  rule : are_here w ≡ are_due i r
  carried : IdentifierCarried i

module _ (xs : List ℕ) (ok : Bytes xs) where
  high : (p : ℕ) → be16 xs p / 256 ≡ get_or xs p 0
  high p = word16-high (get_or xs p 0) (get_or xs (p + 1) 0) (bytes-at xs (p + 1) ok)

  low_byte : (p : ℕ) → be16 xs p % 256 ≡ get_or xs (p + 1) 0
  low_byte p = word16-low (get_or xs p 0) (get_or xs (p + 1) 0) (bytes-at xs (p + 1) ok)

  carried16 : (p : ℕ) → be16 xs p < 65536
  carried16 p = omega (arith, bytes-at xs p ok, bytes-at xs (p + 1) ok)

  abbrev h : ℕ
  h = be16 xs 0

  service-is : ServiceIs (service_at xs h) (inline h) (h % 4)
  service-is = go (inline h) refl
    where
      go : (b : Bool) → inline h ≡ b → ServiceIs (service_at xs h) (inline h) (h % 4)
      go true e = simp e (record { inline-is = refl; last-is = refl; fits = omega arith; carried = (carried16 2, carried16 4, carried16 6) })
      go false e = simp e (record { inline-is = refl; last-is = omega (arith, bytes-at xs 1 ok, bytes-at xs 2 ok); fits = omega arith; carried = tt })

  triplet-low : low triplet_id (be16 xs 1) % 256 ≡ get_or xs 2 0
  triplet-low = omega (arith, bytes-at xs 2 ok)

  tail-is : (p : ℕ) → TailIs (identifier_at xs h p) (windows_at xs h p) (firsts (tail_length h) xs p) (type_in h) (reliable h)
  tail-is p = go (type_in h) (reliable h) refl refl
    where
      go : (k : ℕ) (b : Bool) → type_in h ≡ k → reliable h ≡ b → TailIs (identifier_at xs h p) (windows_at xs h p) (firsts (tail_length h) xs p) (type_in h) (reliable h)
      go zero true e r =
          let both : get_or xs p 0 / 32 % 8 * 32 + get_or xs p 0 % 32 ≡ get_or xs p 0 = omega (arith, bytes-at xs p ok) in
          simp (e, r) (record { type-is = refl; same = simp both; fits = (omega arith, omega arith); rule = refl; carried = tt })
      go zero false e r = simp (e, r) (record { type-is = refl; same = refl; fits = tt; rule = refl; carried = tt })
      go (suc zero) b e r = simp (e, r) (record { type-is = refl; same = simp (high, low_byte) (simp add-one); fits = tt; rule = refl; carried = carried16 p })
      go (suc (suc zero)) b e r = simp (e, r) (record { type-is = refl; same = simp (high, low_byte) (simp add-one); fits = tt; rule = refl; carried = carried16 p })
      go (suc (suc (suc zero))) b e r = simp (e, r) (record { type-is = refl; same = simp (high, low_byte) (simp (add-one, add-two)); fits = tt; rule = refl; carried = (carried16 p, bytes-at xs (p + 2) ok) })
      go (suc (suc (suc (suc k)))) b e r = absurd (omega (arith, carried16 0))

  head-is : head_of (locator_at xs) ≡ h
  unfolding locator_at
  head-is =
      let r : bit (reliable h) ≡ h / 0x2000 % 2 = bit-of (h / 0x2000 % 2) (omega arith) in
      let n : bit (is_inline (service_at xs h)) ≡ h / 0x1000 % 2 = ap bit service-is.inline-is ∙ bit-of (h / 0x1000 % 2) (omega arith) in
      simp ((tail-is (service_end h + times_length)).type-is, r, n, service-is.last-is) (head-fields h)

  service-same : service_end h ≤ length xs → take (service_end h) xs ≡ bytes16 h ++ service_bytes (service_at xs h)
  service-same n = go (inline h) refl
    where
      go : (b : Bool) → inline h ≡ b → take (service_end h) xs ≡ bytes16 h ++ service_bytes (service_at xs h)
      go true e = simp e (sym (firsts-part 8 xs 0 (simp e at n)) ∙ simp (high, low_byte))
      go false e = simp e (sym (firsts-part 3 xs 0 (simp e at n)) ∙ simp (high, low_byte, triplet-low))

  times-same : (p : ℕ) → p + times_length ≤ length xs → part xs p times_length ≡ bytes16 (be16 xs p) ++ bytes16 (be16 xs (p + 2))
  times-same p n = sym (firsts-part times_length xs p n) ∙ simp (high, low_byte) (simp towards_suc)

  bytes-are : size_at xs ≤ length xs → take (size_at xs) xs ≡ locator_bytes (locator_at xs)
  unfolding size_at locator_at locator_bytes
  bytes-are n =
      let p : ℕ = service_end h in
      let q : ℕ = p + times_length in
      let service = service-same (omega arith) ∙ ap (λ k. bytes16 k ++ service_bytes (service_at xs h)) (sym head-is) in
      let times = times-same p (omega arith) in
      let tail = sym (firsts-part (tail_length h) xs q n) ∙ sym (tail-is q).same in
      take-add q (tail_length h) xs
      ∙ ap₂ ◌++◌ (take-add p times_length xs ∙ ap₂ ◌++◌ service times) tail
      ∙ regroup (bytes16 (head_of (locator_at xs))) (service_bytes (service_at xs h)) (bytes16 (be16 xs p)) (bytes16 (be16 xs (p + 2))) (identifier_bytes (identifier_at xs h q)) (windows_bytes (windows_at xs h q))

  fits-are : Fits (locator_at xs)
  unfolding locator_at
  fits-are =
      let p : ℕ = service_end h in
      let g = tail-is (p + times_length) in
      record {
        narrow = record { date = omega arith; reserved = omega arith; service = service-is.fits; windows = g.fits };
        rule = g.rule;
        carried = record { start = carried16 p; duration = carried16 (p + 2); service = service-is.carried; identifier = g.carried };
      }

-- ---- the whole

pub record Rebuilt (xs : List ℕ) (l : DvbBinaryLocator) (n : ℕ) : Type 0 where
  pub there : n ≤ length xs
  pub same : take n xs ≡ locator_bytes l
  pub fits : Fits l

-- where the verdict is Fine, the bytes begin with those of the locator that stands there
pub fine-rebuilt : (xs : List ℕ) → Bytes xs → locator_verdict xs ≡ Fine → Rebuilt xs (locator_at xs) (size_at xs)
fine-rebuilt xs ok e =
    let n = fine-enough xs e in
    record { there = n; same = bytes-are xs ok n; fits = fits-are xs ok }

pub rebuild : (xs : List ℕ) (l : DvbBinaryLocator) (n : ℕ) → Bytes xs → read_locator xs ≡ got_locator l n → Rebuilt xs l n
rebuild xs l n ok e = let g = got-had xs l n e in rw (g.locator, g.used) (fine-rebuilt xs ok g.fine)
