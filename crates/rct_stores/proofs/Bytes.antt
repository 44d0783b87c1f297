-- What is stored, byte by byte, in numbers; and that every other byte is as it was.
-- Assumes nothing.
use Prim.Native.Nat.{ℕ, ◌+◌, ◌-◌, ◌*◌, ◌/◌, ◌%◌, ◌≤◌, ◌<◌}
use mathlib.Core.Path.{◌≡◌, sym, ap, ◌∙◌}
use mathlib.Core.List.{List}
use native.Mathlib.Omega.{arith}
use lib.ListN.{length, get_or, set, replicate, length-replicate, get_or-replicate, length-set}
use lib.Seq.{sets, get_or-set_same, get_or-set_other}
use Rattle.length_field.specs.Lengths.{length_bytes, beside_at}
use Rattle.byte_stores.proofs.Writing.{byte_put, byte-before, byte-behind}
use Rattle.rct_edit.specs.Edit.{filler}
use Rattle.rct_edit.specs.Rehead.{rehead}
use Rattle.rct_stores.specs.Stores.{numbers_put, filled_up, fill_put}
use Rattle.rct_stores.proofs.Exact.{numbers-put, fills}

-- ---- filler: 255 from p up to e

module _ (xs : List ℕ) (p e : ℕ) (h : p ≤ e) (r : e ≤ length xs) where
  abbrev vs : List ℕ
  vs = replicate (e - p) filler

  size : length vs ≡ e - p
  size = length-replicate (e - p) filler

  room : p + length vs ≤ length xs
  room = omega (arith, size)

  went : fill_put xs p e ≡ sets xs p vs
  unfolding filled_up
  went = fills xs p e r

  pub fill-at : (i : ℕ) → i < e - p → get_or (fill_put xs p e) (p + i) 0 ≡ 255
  fill-at i k = ap (λ ys. get_or ys (p + i) 0) went ∙ byte_put xs p vs room i (omega (arith, size)) ∙ get_or-replicate (e - p) i filler 0 k

  pub fill-before : (i : ℕ) → i < p → get_or (fill_put xs p e) i 0 ≡ get_or xs i 0
  fill-before i k = ap (λ ys. get_or ys i 0) went ∙ byte-before xs p vs room i k

  pub fill-behind : (i : ℕ) → get_or (fill_put xs p e) (e + i) 0 ≡ get_or xs (e + i) 0
  fill-behind i = ap (λ ys. get_or ys (e + i) 0) went ∙ byte-behind xs p vs room e i (omega (arith, size))

-- ---- the head's numbers: bytes 1, 2 and 10

module _ (xs : List ℕ) (len count : ℕ) (h : 10 < length xs) where
  abbrev a : ℕ
  a = beside_at xs 1 * 16 + len % 4096 / 256

  abbrev b : ℕ
  b = len % 4096 % 256

  abbrev ys : List ℕ
  ys = set xs 1 a

  abbrev zs : List ℕ
  zs = set ys 2 b

  stored : numbers_put xs len count ≡ set zs 10 count
  unfolding rehead length_bytes
  stored = numbers-put xs len count h

  one : length ys ≡ length xs
  one = simp length-set

  two : length zs ≡ length xs
  two = simp length-set

  -- the four bits beside section_length stay
  pub byte-1 : get_or xs 2 0 < 256 → get_or (numbers_put xs len count) 1 0 ≡ get_or xs 1 0 / 16 * 16 + len % 4096 / 256
  byte-1 l =
      let kept : a ≡ get_or xs 1 0 / 16 * 16 + len % 4096 / 256 = omega arith in
      ap (λ l. get_or l 1 0) stored ∙ get_or-set_other zs 10 1 count 0 (λ e. omega arith) ∙ get_or-set_other ys 2 1 b 0 (λ e. omega arith)
      ∙ get_or-set_same xs 1 a 0 (omega arith) ∙ kept

  pub byte-2 : get_or (numbers_put xs len count) 2 0 ≡ len % 256
  byte-2 =
      let low : b ≡ len % 256 = omega arith in
      ap (λ l. get_or l 2 0) stored ∙ get_or-set_other zs 10 2 count 0 (λ e. omega arith) ∙ get_or-set_same ys 2 b 0 (omega (arith, one)) ∙ low

  pub byte-10 : get_or (numbers_put xs len count) 10 0 ≡ count
  byte-10 = ap (λ l. get_or l 10 0) stored ∙ get_or-set_same zs 10 count 0 (omega (arith, two))

  pub others : (i : ℕ) → (i ≡ 1 → ⊥) → (i ≡ 2 → ⊥) → (i ≡ 10 → ⊥) → get_or (numbers_put xs len count) i 0 ≡ get_or xs i 0
  others i n m k =
      ap (λ l. get_or l i 0) stored ∙ get_or-set_other zs 10 i count 0 k ∙ get_or-set_other ys 2 i b 0 m ∙ get_or-set_other xs 1 i a 0 n
