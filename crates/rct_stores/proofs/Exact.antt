-- When the head's numbers and the filler are stored, and when nothing is.
-- Assumes nothing.
use Prim.Native.Nat.{ℕ, ◌+◌, ◌%◌, ◌≤◌, ◌<◌}
use mathlib.Core.Path.{◌≡◌, ap, ◌∙◌}
use mathlib.Core.Bool.{Bool}
use mathlib.Core.List.{List}
use native.Mathlib.Omega.{arith}
use lib.ListN.{length}
use borrow.Author.Tests.{le-leb, lt-leb, lt-ltb, le-ltb}
use Rattle.wire.specs.Choice.{pick}
use Rattle.length_field.specs.Lengths.{longest}
use Rattle.rct.specs.Syntax.{link_count_place}
use Rattle.rct_edit.specs.Rehead.{rehead}
use Rattle.rct_stores.specs.Stores.{numbers_put, filled_up, fill_put}

module _ (xs : List ℕ) (len count : ℕ) where
  -- the numbers, of whatever section_length
  pub numbers-put : link_count_place < length xs → numbers_put xs len count ≡ rehead xs (len % (longest + 1)) count
  unfolding numbers_put
  numbers-put h = ap (λ (b : Bool). pick b (rehead xs (len % (longest + 1)) count) xs) (lt-ltb _ _ h)

  -- of one that its field can tell, all of it
  pub numbers-whole : link_count_place < length xs → len ≤ longest → numbers_put xs len count ≡ rehead xs len count
  numbers-whole h l = let whole : len % (longest + 1) ≡ len = omega arith in numbers-put h ∙ ap (λ (n : ℕ). rehead xs n count) whole

  pub numbers_stay : length xs ≤ link_count_place → numbers_put xs len count ≡ xs
  unfolding numbers_put
  numbers_stay h = ap (λ (b : Bool). pick b (rehead xs (len % (longest + 1)) count) xs) (le-ltb _ _ h)

module _ (xs : List ℕ) (p e : ℕ) where
  pub fills : e ≤ length xs → fill_put xs p e ≡ filled_up xs p e
  unfolding fill_put
  fills h = ap (λ (b : Bool). pick b (filled_up xs p e) xs) (le-leb _ _ h)

  pub fill-stays : length xs < e → fill_put xs p e ≡ xs
  unfolding fill_put
  fill-stays h = ap (λ (b : Bool). pick b (filled_up xs p e) xs) (lt-leb _ _ h)
