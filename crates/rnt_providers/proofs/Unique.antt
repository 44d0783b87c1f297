-- Each public function's own contract takes every input and leaves one outcome.
-- Assumes nothing.
use mathlib.Core.Path.{refl}
use Rattle.wire.proofs.One.{One, both}
use Rattle.rnt_providers.proofs.read_provider.Kinds as read-provider-kinds
use Rattle.rnt_providers.proofs.read_provider.Reads as read-provider-reads
use Rattle.rnt_providers.proofs.read_authority.Kinds as read-authority-kinds
use Rattle.rnt_providers.proofs.read_authority.Reads as read-authority-reads

pub read-provider-one : One read-provider-kinds.ps read-provider-kinds.r read-provider-reads.Asked read-provider-reads.Learnt
read-provider-one = record { total = λ κs a. tt; one = λ κs a x y v w p q. (both p q, refl) }

pub read-authority-one : One read-authority-kinds.ps read-authority-kinds.r read-authority-reads.Asked read-authority-reads.Learnt
read-authority-one = record { total = λ κs a. tt; one = λ κs a x y v w p q. (both p q, refl) }
