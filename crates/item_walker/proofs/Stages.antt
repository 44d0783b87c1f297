-- What the walk over items answers, case by case, over plain lists: the code's returns cite these.
-- Assumes nothing.
use mathlib.Core.Path.{◌≡◌, sym, ap₂}
use Prim.Native.Nat.{ℕ, ◌+◌, ◌-◌, ◌≤◌, ◌<◌}
use mathlib.Core.List.{List}
use lib.ListN.{length}
use borrow.Author.Tests.{lt-ltb, le-ltb}
use Rattle.wire.specs.Refusals.{item_cut, text_cut}
use Rattle.wire.specs.Verdict.{refuse, reached, ◌▷◌, Fine}
use Rattle.link.specs.Syntax.{item_head}
use Rattle.link.specs.Reading.{item_end, item_place, item_verdict, items_verdict}
use Rattle.link.proofs.Turns.{items-on, place-on}
use Rattle.std.specs.Prelude.{Err, Ok}

module _ (xs : List ℕ) where
  pub item-12 : (p : ℕ) → length xs < p + item_head
      → Err (record { number = item_cut; first = p + item_head; second = length xs }) ≡ reached (item_verdict xs p) (item_end xs p)
  unfolding item_verdict refuse ◌▷◌ reached
  item-12 p h = rw (lt-ltb _ _ h)

  pub item-13 : (p : ℕ) → p + item_head ≤ length xs → length xs < item_end xs p
      → Err (record { number = text_cut; first = item_end xs p; second = length xs }) ≡ reached (item_verdict xs p) (item_end xs p)
  unfolding item_verdict refuse ◌▷◌ reached
  item-13 p h k = rw (le-ltb _ _ h, lt-ltb _ _ k)

  pub item-past : (p : ℕ) → p + item_head ≤ length xs → item_end xs p ≤ length xs → Ok (item_end xs p) ≡ reached (item_verdict xs p) (item_end xs p)
  unfolding item_verdict refuse ◌▷◌ reached
  item-past p h k = rw (le-ltb _ _ h, le-ltb _ _ k)

  pub turn_on : (k p : ℕ) → 0 < k → item_verdict xs p ≡ Fine
      → reached (items_verdict (k - 1) xs (item_end xs p)) (item_place (k - 1) xs (item_end xs p)) ≡ reached (items_verdict k xs p) (item_place k xs p)
  turn_on k p h v = sym (ap₂ reached (items-on k xs p h v) (place-on k xs p h))
