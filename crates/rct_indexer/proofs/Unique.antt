-- The public function's own contract takes every input and leaves one outcome.
-- Assumes nothing.
use mathlib.Core.Path.{refl}
use Rattle.wire.proofs.One.{One, both}
use Rattle.rct_indexer.proofs.build_index.Kinds as build-index-kinds
use Rattle.rct_indexer.proofs.build_index.Reads as build-index-reads

pub build-index-one : One build-index-kinds.ps build-index-kinds.r build-index-reads.Asked build-index-reads.Learnt
build-index-one = record { total = λ κs a. tt; one = λ κs a x y v w p q. (both p q, refl) }
