-- Each public function's own contract takes every input and leaves one outcome: of a part that is handed back its bytes and its place in the lent slice, all of a reference but its ghost name, which no run has.
-- Assumes nothing.
use Prim.Native.Nat.{ℕ}
use mathlib.Core.List.{List}
use mathlib.Core.Path.{refl}
use Rattle.wire.proofs.One.{OneAs, both, pair}
use Rattle.rnt_parts.proofs.common_descriptors.Kinds as common-descriptors-kinds
use Rattle.rnt_parts.proofs.common_descriptors.Reads as common-descriptors-reads
use Rattle.rnt_parts.proofs.provider_name.Kinds as provider-name-kinds
use Rattle.rnt_parts.proofs.provider_name.Reads as provider-name-reads
use Rattle.rnt_parts.proofs.provider_descriptors.Kinds as provider-descriptors-kinds
use Rattle.rnt_parts.proofs.provider_descriptors.Reads as provider-descriptors-reads

pub common-descriptors-one : OneAs common-descriptors-kinds.ps common-descriptors-kinds.r (λ κs. (ℕ × ℕ) × List ℕ) (λ κs x. (x.ref_ptr, x.now)) common-descriptors-reads.Asked common-descriptors-reads.Learnt
common-descriptors-one = record { total = λ κs a. tt; one = λ κs a x y v w p q. (pair (both p.1 q.1) (both p.0 q.0), refl) }

pub provider-name-one : OneAs provider-name-kinds.ps provider-name-kinds.r (λ κs. (ℕ × ℕ) × List ℕ) (λ κs x. (x.ref_ptr, x.now)) provider-name-reads.Asked provider-name-reads.Learnt
provider-name-one = record { total = λ κs a. tt; one = λ κs a x y v w p q. (pair (both p.1 q.1) (both p.0 q.0), refl) }

pub provider-descriptors-one : OneAs provider-descriptors-kinds.ps provider-descriptors-kinds.r (λ κs. (ℕ × ℕ) × List ℕ) (λ κs x. (x.ref_ptr, x.now)) provider-descriptors-reads.Asked provider-descriptors-reads.Learnt
provider-descriptors-one = record { total = λ κs a. tt; one = λ κs a x y v w p q. (pair (both p.1 q.1) (both p.0 q.0), refl) }
