-- Each public function's own contract takes every input and leaves one outcome; a part that is handed back is one part of
-- the lent slice, with its place: all of a reference but its ghost name, which no run has.
-- Assumes nothing.
use Prim.Native.Nat.{ℕ}
use mathlib.Core.List.{List}
use mathlib.Core.Path.{refl}
use Rattle.wire.proofs.One.{OneAs, both, pair}
use Rattle.link_parts.proofs.media_uri.Kinds as media-uri-kinds
use Rattle.link_parts.proofs.media_uri.Reads as media-uri-reads
use Rattle.link_parts.proofs.promotional_text.Kinds as promotional-text-kinds
use Rattle.link_parts.proofs.promotional_text.Reads as promotional-text-reads
use Rattle.link_parts.proofs.descriptors.Kinds as descriptors-kinds
use Rattle.link_parts.proofs.descriptors.Reads as descriptors-reads

pub media-uri-one : OneAs media-uri-kinds.ps media-uri-kinds.r (λ κs. (ℕ × ℕ) × List ℕ) (λ κs x. (x.ref_ptr, x.now)) media-uri-reads.Asked media-uri-reads.Learnt
media-uri-one = record { total = λ κs a. tt; one = λ κs a x y v w p q. (pair (both p.1 q.1) (both p.0 q.0), refl) }

pub promotional-text-one : OneAs promotional-text-kinds.ps promotional-text-kinds.r (λ κs. (ℕ × ℕ) × List ℕ) (λ κs x. (x.ref_ptr, x.now)) promotional-text-reads.Asked promotional-text-reads.Learnt
promotional-text-one = record { total = λ κs a. tt; one = λ κs a x y v w p q. (pair (both p.1 q.1) (both p.0 q.0), refl) }

pub descriptors-one : OneAs descriptors-kinds.ps descriptors-kinds.r (λ κs. (ℕ × ℕ) × List ℕ) (λ κs x. (x.ref_ptr, x.now)) descriptors-reads.Asked descriptors-reads.Learnt
descriptors-one = record { total = λ κs a. tt; one = λ κs a x y v w p q. (pair (both p.1 q.1) (both p.0 q.0), refl) }
