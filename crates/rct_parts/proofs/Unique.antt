-- Each public function's own contract takes every input and leaves one outcome: of a part that is handed back its bytes and its place in the lent slice, all of a reference but its ghost name, which no run has.
-- Assumes nothing.
use Prim.Native.Nat.{ℕ}
use mathlib.Core.List.{List}
use mathlib.Core.Path.{refl}
use Rattle.wire.proofs.One.{OneAs, both, pair}
use Rattle.rct_parts.proofs.link_body.Kinds as link-body-kinds
use Rattle.rct_parts.proofs.link_body.Reads as link-body-reads
use Rattle.rct_parts.proofs.media_uri.Kinds as media-uri-kinds
use Rattle.rct_parts.proofs.media_uri.Reads as media-uri-reads
use Rattle.rct_parts.proofs.promotional_text.Kinds as promotional-text-kinds
use Rattle.rct_parts.proofs.promotional_text.Reads as promotional-text-reads
use Rattle.rct_parts.proofs.link_descriptors.Kinds as link-descriptors-kinds
use Rattle.rct_parts.proofs.link_descriptors.Reads as link-descriptors-reads
use Rattle.rct_parts.proofs.loop_descriptors.Kinds as loop-descriptors-kinds
use Rattle.rct_parts.proofs.loop_descriptors.Reads as loop-descriptors-reads

pub link-body-one : OneAs link-body-kinds.ps link-body-kinds.r (λ κs. (ℕ × ℕ) × List ℕ) (λ κs x. (x.ref_ptr, x.now)) link-body-reads.Asked link-body-reads.Learnt
link-body-one = record { total = λ κs a. tt; one = λ κs a x y v w p q. (pair (both p.1 q.1) (both p.0 q.0), refl) }

pub media-uri-one : OneAs media-uri-kinds.ps media-uri-kinds.r (λ κs. (ℕ × ℕ) × List ℕ) (λ κs x. (x.ref_ptr, x.now)) media-uri-reads.Asked media-uri-reads.Learnt
media-uri-one = record { total = λ κs a. tt; one = λ κs a x y v w p q. (pair (both p.1 q.1) (both p.0 q.0), refl) }

pub promotional-text-one : OneAs promotional-text-kinds.ps promotional-text-kinds.r (λ κs. (ℕ × ℕ) × List ℕ) (λ κs x. (x.ref_ptr, x.now)) promotional-text-reads.Asked promotional-text-reads.Learnt
promotional-text-one = record { total = λ κs a. tt; one = λ κs a x y v w p q. (pair (both p.1 q.1) (both p.0 q.0), refl) }

pub link-descriptors-one : OneAs link-descriptors-kinds.ps link-descriptors-kinds.r (λ κs. (ℕ × ℕ) × List ℕ) (λ κs x. (x.ref_ptr, x.now)) link-descriptors-reads.Asked link-descriptors-reads.Learnt
link-descriptors-one = record { total = λ κs a. tt; one = λ κs a x y v w p q. (pair (both p.1 q.1) (both p.0 q.0), refl) }

pub loop-descriptors-one : OneAs loop-descriptors-kinds.ps loop-descriptors-kinds.r (λ κs. (ℕ × ℕ) × List ℕ) (λ κs x. (x.ref_ptr, x.now)) loop-descriptors-reads.Asked loop-descriptors-reads.Learnt
loop-descriptors-one = record { total = λ κs a. tt; one = λ κs a x y v w p q. (pair (both p.1 q.1) (both p.0 q.0), refl) }
