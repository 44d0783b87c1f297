-- Each public function's own contract takes every input and leaves one outcome.
-- Assumes nothing.
use mathlib.Core.Path.{refl}
use Rattle.wire.proofs.One.{One, both}
use Rattle.flat_answers.proofs.links.LinkAnswer.of.Kinds as link-kinds
use Rattle.flat_answers.proofs.links.LinkAnswer.of.Reads as link-reads
use Rattle.flat_answers.proofs.links.ItemAnswer.of.Kinds as item-kinds
use Rattle.flat_answers.proofs.links.ItemAnswer.of.Reads as item-reads
use Rattle.flat_answers.proofs.links.StepAnswer.of.Kinds as step-kinds
use Rattle.flat_answers.proofs.links.StepAnswer.of.Reads as step-reads
use Rattle.flat_answers.proofs.links.EntryAnswer.of.Kinds as entry-kinds
use Rattle.flat_answers.proofs.links.EntryAnswer.of.Reads as entry-reads
use Rattle.flat_answers.proofs.edits.EditAnswer.of.Kinds as edit-kinds
use Rattle.flat_answers.proofs.edits.EditAnswer.of.Reads as edit-reads
use Rattle.flat_answers.proofs.edits.IndexAnswer.of.Kinds as index-kinds
use Rattle.flat_answers.proofs.edits.IndexAnswer.of.Reads as index_Reads
use Rattle.flat_answers.proofs.edits.IndexEditAnswer.of.Kinds as index-edit-kinds
use Rattle.flat_answers.proofs.edits.IndexEditAnswer.of.Reads as index-edit-reads
use Rattle.flat_answers.proofs.providers.ProviderAnswer.of.Kinds as provider-kinds
use Rattle.flat_answers.proofs.providers.ProviderAnswer.of.Reads as provider-reads
use Rattle.flat_answers.proofs.providers.ProviderFoundAnswer.of.Kinds as provider-found-kinds
use Rattle.flat_answers.proofs.providers.ProviderFoundAnswer.of.Reads as provider-found-reads
use Rattle.flat_answers.proofs.providers.AuthorityAnswer.of.Kinds as authority-kinds
use Rattle.flat_answers.proofs.providers.AuthorityAnswer.of.Reads as authority-reads
use Rattle.flat_answers.proofs.providers.AuthorityFoundAnswer.of.Kinds as authority-found-kinds
use Rattle.flat_answers.proofs.providers.AuthorityFoundAnswer.of.Reads as authority-found-reads

pub link-one : One link-kinds.ps link-kinds.r link-reads.Asked link-reads.Learnt
link-one = record { total = λ κs a. tt; one = λ κs a x y v w p q. (both p q, refl) }

pub item-one : One item-kinds.ps item-kinds.r item-reads.Asked item-reads.Learnt
item-one = record { total = λ κs a. tt; one = λ κs a x y v w p q. (both p q, refl) }

pub step-one : One step-kinds.ps step-kinds.r step-reads.Asked step-reads.Learnt
step-one = record { total = λ κs a. tt; one = λ κs a x y v w p q. (both p q, refl) }

pub entry-one : One entry-kinds.ps entry-kinds.r entry-reads.Asked entry-reads.Learnt
entry-one = record { total = λ κs a. tt; one = λ κs a x y v w p q. (both p q, refl) }

pub edit-one : One edit-kinds.ps edit-kinds.r edit-reads.Asked edit-reads.Learnt
edit-one = record { total = λ κs a. tt; one = λ κs a x y v w p q. (both p q, refl) }

pub index-one : One index-kinds.ps index-kinds.r index_Reads.Asked index_Reads.Learnt
index-one = record { total = λ κs a. tt; one = λ κs a x y v w p q. (both p q, refl) }

pub index-edit-one : One index-edit-kinds.ps index-edit-kinds.r index-edit-reads.Asked index-edit-reads.Learnt
index-edit-one = record { total = λ κs a. tt; one = λ κs a x y v w p q. (both p q, refl) }

pub provider-one : One provider-kinds.ps provider-kinds.r provider-reads.Asked provider-reads.Learnt
provider-one = record { total = λ κs a. tt; one = λ κs a x y v w p q. (both p q, refl) }

pub provider-found-one : One provider-found-kinds.ps provider-found-kinds.r provider-found-reads.Asked provider-found-reads.Learnt
provider-found-one = record { total = λ κs a. tt; one = λ κs a x y v w p q. (both p q, refl) }

pub authority-one : One authority-kinds.ps authority-kinds.r authority-reads.Asked authority-reads.Learnt
authority-one = record { total = λ κs a. tt; one = λ κs a x y v w p q. (both p q, refl) }

pub authority-found-one : One authority-found-kinds.ps authority-found-kinds.r authority-found-reads.Asked authority-found-reads.Learnt
authority-found-one = record { total = λ κs a. tt; one = λ κs a x y v w p q. (both p q, refl) }
