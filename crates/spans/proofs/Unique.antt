-- Each public function's own contract takes every input and leaves one outcome.
-- Assumes nothing.
use Prim.Native.Nat.{ℕ}
use mathlib.Core.List.{List}
use mathlib.Core.Path.{◌≡◌, refl}
use Rattle.wire.proofs.One.{OneAs, both, pair}
use Rattle.spans.proofs.handed.Kinds as handed-kinds
use Rattle.spans.proofs.handed.Reads as handed-reads

-- of a part that is handed back: its bytes and its place in the lent slice
pub handed-one : OneAs handed-kinds.ps handed-kinds.r (λ κs. (ℕ × ℕ) × List ℕ) (λ κs x. (x.ref_ptr, x.now)) handed-reads.Asked handed-reads.Learnt
handed-one = record { total = λ κs a. tt; one = λ κs a x y v w p q. (pair (both p.1 q.1) (both p.0 q.0), refl) }
