-- Each public function's own contract takes every input and leaves one outcome.
-- Assumes nothing.
use mathlib.Core.Path.{refl}
use Rattle.wire.proofs.One.{One, both, pair}
use Rattle.eallunsa.proofs.eallunsa_version.Kinds as eallunsa-version-kinds
use Rattle.eallunsa.proofs.eallunsa_version.Reads as eallunsa-version-reads
use Rattle.eallunsa.proofs.eallunsa_crc.Kinds as eallunsa-crc-kinds
use Rattle.eallunsa.proofs.eallunsa_crc.Reads as eallunsa-crc-reads
use Rattle.eallunsa.proofs.related.eallunsa_rct_read.Kinds as eallunsa-rct-read-kinds
use Rattle.eallunsa.proofs.related.eallunsa_rct_read.Reads as eallunsa-rct-read-reads
use Rattle.eallunsa.proofs.related.eallunsa_rct_check.Kinds as eallunsa-rct-check-kinds
use Rattle.eallunsa.proofs.related.eallunsa_rct_check.Reads as eallunsa-rct-check-reads
use Rattle.eallunsa.proofs.related.eallunsa_rct_link.Kinds as eallunsa-rct-link-kinds
use Rattle.eallunsa.proofs.related.eallunsa_rct_link.Reads as eallunsa-rct-link-reads
use Rattle.eallunsa.proofs.related.eallunsa_rct_item.Kinds as eallunsa-rct-item-kinds
use Rattle.eallunsa.proofs.related.eallunsa_rct_item.Reads as eallunsa-rct-item-reads
use Rattle.eallunsa.proofs.related.eallunsa_rct_entry.Kinds as eallunsa-rct-entry-kinds
use Rattle.eallunsa.proofs.related.eallunsa_rct_entry.Reads as eallunsa-rct-entry-reads
use Rattle.eallunsa.proofs.related.eallunsa_item_from.Kinds as eallunsa-item-from-kinds
use Rattle.eallunsa.proofs.related.eallunsa_item_from.Reads as eallunsa-item-from-reads
use Rattle.eallunsa.proofs.edits.eallunsa_rct_make.Kinds as eallunsa-rct-make-kinds
use Rattle.eallunsa.proofs.edits.eallunsa_rct_make.Reads as eallunsa-rct-make-reads
use Rattle.eallunsa.proofs.edits.eallunsa_rct_append.Kinds as eallunsa-rct-append-kinds
use Rattle.eallunsa.proofs.edits.eallunsa_rct_append.Reads as eallunsa-rct-append-reads
use Rattle.eallunsa.proofs.edits.eallunsa_rct_replace.Kinds as eallunsa-rct-replace-kinds
use Rattle.eallunsa.proofs.edits.eallunsa_rct_replace.Reads as eallunsa-rct-replace-reads
use Rattle.eallunsa.proofs.indexing.eallunsa_rct_index.Kinds as eallunsa-rct-index-kinds
use Rattle.eallunsa.proofs.indexing.eallunsa_rct_index.Reads as eallunsa-rct-index-reads
use Rattle.eallunsa.proofs.indexing.eallunsa_index_place.Kinds as eallunsa-index-place-kinds
use Rattle.eallunsa.proofs.indexing.eallunsa_index_place.Reads as eallunsa-index-place-reads
use Rattle.eallunsa.proofs.indexing.eallunsa_set_has.Kinds as eallunsa-set-has-kinds
use Rattle.eallunsa.proofs.indexing.eallunsa_set_has.Reads as eallunsa-set-has-reads
use Rattle.eallunsa.proofs.indexing.eallunsa_set_count.Kinds as eallunsa-set-count-kinds
use Rattle.eallunsa.proofs.indexing.eallunsa_set_count.Reads as eallunsa-set-count-reads
use Rattle.eallunsa.proofs.indexing.eallunsa_rct_index_append.Kinds as eallunsa-rct-index-append-kinds
use Rattle.eallunsa.proofs.indexing.eallunsa_rct_index_append.Reads as eallunsa-rct-index-append-reads
use Rattle.eallunsa.proofs.indexing.eallunsa_rct_index_replace.Kinds as eallunsa-rct-index-replace-kinds
use Rattle.eallunsa.proofs.indexing.eallunsa_rct_index_replace.Reads as eallunsa-rct-index-replace-reads
use Rattle.eallunsa.proofs.resolution.eallunsa_rnt_read.Kinds as eallunsa-rnt-read-kinds
use Rattle.eallunsa.proofs.resolution.eallunsa_rnt_read.Reads as eallunsa-rnt-read-reads
use Rattle.eallunsa.proofs.resolution.eallunsa_rnt_check.Kinds as eallunsa-rnt-check-kinds
use Rattle.eallunsa.proofs.resolution.eallunsa_rnt_check.Reads as eallunsa-rnt-check-reads
use Rattle.eallunsa.proofs.resolution.eallunsa_rnt_provider.Kinds as eallunsa-rnt-provider-kinds
use Rattle.eallunsa.proofs.resolution.eallunsa_rnt_provider.Reads as eallunsa-rnt-provider-reads
use Rattle.eallunsa.proofs.resolution.eallunsa_rnt_authority.Kinds as eallunsa-rnt-authority-kinds
use Rattle.eallunsa.proofs.resolution.eallunsa_rnt_authority.Reads as eallunsa-rnt-authority-reads
use Rattle.eallunsa.proofs.resolution.eallunsa_rnt_provider_at.Kinds as eallunsa-rnt-provider-at-kinds
use Rattle.eallunsa.proofs.resolution.eallunsa_rnt_provider_at.Reads as eallunsa-rnt-provider-at-reads
use Rattle.eallunsa.proofs.resolution.eallunsa_rnt_authority_at.Kinds as eallunsa-rnt-authority-at-kinds
use Rattle.eallunsa.proofs.resolution.eallunsa_rnt_authority_at.Reads as eallunsa-rnt-authority-at-reads

pub eallunsa-version-one : One eallunsa-version-kinds.ps eallunsa-version-kinds.r eallunsa-version-reads.Asked eallunsa-version-reads.Learnt
eallunsa-version-one = record { total = λ κs a. tt; one = λ κs a x y v w p q. (both p q, refl) }

pub eallunsa-crc-one : One eallunsa-crc-kinds.ps eallunsa-crc-kinds.r eallunsa-crc-reads.Asked eallunsa-crc-reads.Learnt
eallunsa-crc-one = record { total = λ κs a. tt; one = λ κs a x y v w p q. (both p q, refl) }

pub eallunsa-rct-read-one : One eallunsa-rct-read-kinds.ps eallunsa-rct-read-kinds.r eallunsa-rct-read-reads.Asked eallunsa-rct-read-reads.Learnt
eallunsa-rct-read-one = record { total = λ κs a. tt; one = λ κs a x y v w p q. (both p q, refl) }

pub eallunsa-rct-check-one : One eallunsa-rct-check-kinds.ps eallunsa-rct-check-kinds.r eallunsa-rct-check-reads.Asked eallunsa-rct-check-reads.Learnt
eallunsa-rct-check-one = record { total = λ κs a. tt; one = λ κs a x y v w p q. (both p q, refl) }

pub eallunsa-rct-link-one : One eallunsa-rct-link-kinds.ps eallunsa-rct-link-kinds.r eallunsa-rct-link-reads.Asked eallunsa-rct-link-reads.Learnt
eallunsa-rct-link-one = record { total = λ κs a. tt; one = λ κs a x y v w p q. (both p q, refl) }

pub eallunsa-rct-item-one : One eallunsa-rct-item-kinds.ps eallunsa-rct-item-kinds.r eallunsa-rct-item-reads.Asked eallunsa-rct-item-reads.Learnt
eallunsa-rct-item-one = record { total = λ κs a. tt; one = λ κs a x y v w p q. (both p q, refl) }

pub eallunsa-rct-entry-one : One eallunsa-rct-entry-kinds.ps eallunsa-rct-entry-kinds.r eallunsa-rct-entry-reads.Asked eallunsa-rct-entry-reads.Learnt
eallunsa-rct-entry-one = record { total = λ κs a. tt; one = λ κs a x y v w p q. (both p q, refl) }

pub eallunsa-item-from-one : One eallunsa-item-from-kinds.ps eallunsa-item-from-kinds.r eallunsa-item-from-reads.Asked eallunsa-item-from-reads.Learnt
eallunsa-item-from-one = record { total = λ κs a. tt; one = λ κs a x y v w p q. (both p q, refl) }

pub eallunsa-rct-make-one : One eallunsa-rct-make-kinds.ps eallunsa-rct-make-kinds.r eallunsa-rct-make-reads.Asked eallunsa-rct-make-reads.Learnt
eallunsa-rct-make-one = record { total = λ κs a. tt; one = λ κs a x y v w p q. (both p.0 q.0, pair (both p.1 q.1) refl) }

pub eallunsa-rct-append-one : One eallunsa-rct-append-kinds.ps eallunsa-rct-append-kinds.r eallunsa-rct-append-reads.Asked eallunsa-rct-append-reads.Learnt
eallunsa-rct-append-one = record { total = λ κs a. tt; one = λ κs a x y v w p q. (both p.0 q.0, pair (both p.1 q.1) refl) }

pub eallunsa-rct-replace-one : One eallunsa-rct-replace-kinds.ps eallunsa-rct-replace-kinds.r eallunsa-rct-replace-reads.Asked eallunsa-rct-replace-reads.Learnt
eallunsa-rct-replace-one = record { total = λ κs a. tt; one = λ κs a x y v w p q. (both p.0 q.0, pair (both p.1 q.1) refl) }

pub eallunsa-rct-index-one : One eallunsa-rct-index-kinds.ps eallunsa-rct-index-kinds.r eallunsa-rct-index-reads.Asked eallunsa-rct-index-reads.Learnt
eallunsa-rct-index-one = record { total = λ κs a. tt; one = λ κs a x y v w p q. (both p q, refl) }

pub eallunsa-index-place-one : One eallunsa-index-place-kinds.ps eallunsa-index-place-kinds.r eallunsa-index-place-reads.Asked eallunsa-index-place-reads.Learnt
eallunsa-index-place-one = record { total = λ κs a. tt; one = λ κs a x y v w p q. (both p q, refl) }

pub eallunsa-set-has-one : One eallunsa-set-has-kinds.ps eallunsa-set-has-kinds.r eallunsa-set-has-reads.Asked eallunsa-set-has-reads.Learnt
eallunsa-set-has-one = record { total = λ κs a. tt; one = λ κs a x y v w p q. (both p q, refl) }

pub eallunsa-set-count-one : One eallunsa-set-count-kinds.ps eallunsa-set-count-kinds.r eallunsa-set-count-reads.Asked eallunsa-set-count-reads.Learnt
eallunsa-set-count-one = record { total = λ κs a. tt; one = λ κs a x y v w p q. (both p q, refl) }

pub eallunsa-rct-index-append-one : One eallunsa-rct-index-append-kinds.ps eallunsa-rct-index-append-kinds.r eallunsa-rct-index-append-reads.Asked eallunsa-rct-index-append-reads.Learnt
eallunsa-rct-index-append-one = record { total = λ κs a. tt; one = λ κs a x y v w p q. (both p.0 q.0, pair (both p.1 q.1) refl) }

pub eallunsa-rct-index-replace-one : One eallunsa-rct-index-replace-kinds.ps eallunsa-rct-index-replace-kinds.r eallunsa-rct-index-replace-reads.Asked eallunsa-rct-index-replace-reads.Learnt
eallunsa-rct-index-replace-one = record { total = λ κs a. tt; one = λ κs a x y v w p q. (both p.0 q.0, pair (both p.1 q.1) refl) }

pub eallunsa-rnt-read-one : One eallunsa-rnt-read-kinds.ps eallunsa-rnt-read-kinds.r eallunsa-rnt-read-reads.Asked eallunsa-rnt-read-reads.Learnt
eallunsa-rnt-read-one = record { total = λ κs a. tt; one = λ κs a x y v w p q. (both p q, refl) }

pub eallunsa-rnt-check-one : One eallunsa-rnt-check-kinds.ps eallunsa-rnt-check-kinds.r eallunsa-rnt-check-reads.Asked eallunsa-rnt-check-reads.Learnt
eallunsa-rnt-check-one = record { total = λ κs a. tt; one = λ κs a x y v w p q. (both p q, refl) }

pub eallunsa-rnt-provider-one : One eallunsa-rnt-provider-kinds.ps eallunsa-rnt-provider-kinds.r eallunsa-rnt-provider-reads.Asked eallunsa-rnt-provider-reads.Learnt
eallunsa-rnt-provider-one = record { total = λ κs a. tt; one = λ κs a x y v w p q. (both p q, refl) }

pub eallunsa-rnt-authority-one : One eallunsa-rnt-authority-kinds.ps eallunsa-rnt-authority-kinds.r eallunsa-rnt-authority-reads.Asked eallunsa-rnt-authority-reads.Learnt
eallunsa-rnt-authority-one = record { total = λ κs a. tt; one = λ κs a x y v w p q. (both p q, refl) }

pub eallunsa-rnt-provider-at-one : One eallunsa-rnt-provider-at-kinds.ps eallunsa-rnt-provider-at-kinds.r eallunsa-rnt-provider-at-reads.Asked eallunsa-rnt-provider-at-reads.Learnt
eallunsa-rnt-provider-at-one = record { total = λ κs a. tt; one = λ κs a x y v w p q. (both p q, refl) }

pub eallunsa-rnt-authority-at-one : One eallunsa-rnt-authority-at-kinds.ps eallunsa-rnt-authority-at-kinds.r eallunsa-rnt-authority-at-reads.Asked eallunsa-rnt-authority-at-reads.Learnt
eallunsa-rnt-authority-at-one = record { total = λ κs a. tt; one = λ κs a x y v w p q. (both p q, refl) }
