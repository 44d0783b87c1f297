use mathlib.Core.Path.{◌≡◌, sym, ◌∙◌}
use Prim.Native.Nat.{◌-◌}
use native.Mathlib.Omega.{arith}
use lib.ListN.{length, take, drop, length-drop}
use lib.Seq.{length-take-le}
use Rattle.rct_stores.proofs.Exact.{fill-stays}
use Rattle.rct_stores.proofs.Steps.{fill_none, fill-all}
use Rattle.rct_stores.proofs.fill.Goals as goal

pub returns-then-b-to : goal.returns-then-b-to
returns-then-b-to c = sym (fill-stays _ _ _ (omega arith))

pub returns-then-to-from : goal.returns-then-to-from
returns-then-to-from c = fill_none _ _ _ (omega arith) (omega arith)

pub returns : goal.returns
returns c =
    let a = c.args in
    let n : length (take (a.to - a.from) (drop a.from a.b.now)) ≡ a.to - a.from = length-take-le _ (drop a.from a.b.now) (omega (arith, length-drop a.from a.b.now)) in
    fill-all _ _ _ _ (omega arith) (omega arith) (c.fill.ensures.after (λ y e. e) ∙ rw (n, c.filler.ensures))
