-- The numbers of an edit, as they are tested.
-- Assumes nothing.
use Prim.Native.Nat.{ℕ}
use mathlib.Core.Path.{◌≡◌, refl}
use mathlib.Core.Bool.{Bool, true, false, ◌&&◌, false≢true}
use borrow.Author.Tests.{lt-ltb, le-leb, ltb-true, leb-true}
use Rattle.rct_index_updater.specs.Bringing.{are_numbers}
use Rattle.rct_index_updater.specs.Stages.{Numbers}

and_both : (a b : Bool) → (a && b) ≡ true → (a ≡ true) × (b ≡ true)
and_both true b e = (refl, e)
and_both false b e = absurd (false≢true e)

module _ (k n q old new : ℕ) where
  pub numbers_fit : Numbers k n q old new → are_numbers k n q old new ≡ true
  numbers_fit m = rw (lt-ltb _ _ m.number, le-leb _ _ m.count, lt-ltb _ _ m.place, le-leb _ _ m.before, le-leb _ _ m.total) refl

  pub fit-numbers : are_numbers k n q old new ≡ true → Numbers k n q old new
  fit-numbers e =
      let a = and_both _ _ e in
      let b = and_both _ _ a.1 in
      let c = and_both _ _ b.1 in
      let d = and_both _ _ c.1 in
      record {
        number = ltb-true _ _ a.0;
        count = leb-true _ _ b.0;
        place = ltb-true _ _ c.0;
        before = leb-true _ _ d.0;
        total = leb-true _ _ d.1;
      }
