-- Each public function's own contract takes every input and leaves one outcome: of a part that is handed back its bytes and its place in the lent slice, all of a reference but its ghost name, which no run has.
-- Assumes nothing.
use Prim.Native.Nat.{ℕ}
use mathlib.Core.List.{List}
use mathlib.Core.Path.{refl}
use Rattle.wire.proofs.One.{OneAs, both, pair}
use Rattle.rnt_authority_parts.proofs.authority_name.Kinds as authority-name-kinds
use Rattle.rnt_authority_parts.proofs.authority_name.Reads as authority-name-reads
use Rattle.rnt_authority_parts.proofs.authority_descriptors.Kinds as authority-descriptors-kinds
use Rattle.rnt_authority_parts.proofs.authority_descriptors.Reads as authority-descriptors-reads

pub authority-name-one : OneAs authority-name-kinds.ps authority-name-kinds.r (λ κs. (ℕ × ℕ) × List ℕ) (λ κs x. (x.ref_ptr, x.now)) authority-name-reads.Asked authority-name-reads.Learnt
authority-name-one = record { total = λ κs a. tt; one = λ κs a x y v w p q. (pair (both p.1 q.1) (both p.0 q.0), refl) }

pub authority-descriptors-one : OneAs authority-descriptors-kinds.ps authority-descriptors-kinds.r (λ κs. (ℕ × ℕ) × List ℕ) (λ κs x. (x.ref_ptr, x.now)) authority-descriptors-reads.Asked authority-descriptors-reads.Learnt
authority-descriptors-one = record { total = λ κs a. tt; one = λ κs a x y v w p q. (pair (both p.1 q.1) (both p.0 q.0), refl) }
