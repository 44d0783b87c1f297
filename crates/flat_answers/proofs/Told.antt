-- What an answer has where its call did its work, and that all but the refusal are zeros where it refused.
-- Assumes nothing.
use Prim.Native.Nat.{ℕ}
use mathlib.Core.Path.{◌≡◌, refl}
use Rattle.wire.specs.declared.verdict.Refusal.{Refusal}
use Rattle.link.specs.Records.{no_fields}
use Rattle.link.specs.declared.LinkItem.{LinkItem}
use Rattle.link.specs.declared.LinkFields.{LinkFields}
use Rattle.rnt.specs.declared.CridAuthority.{CridAuthority}
use Rattle.rnt.specs.declared.ResolutionProvider.{ResolutionProvider}
use Rattle.rct_edit.proofs.Outcomes.{total_got}
use Rattle.rct_index.specs.Index.{no_index}
use Rattle.rct_index.specs.declared.RctIndex.{RctIndex}
use Rattle.rct_index.specs.declared.IndexEdited.{IndexEdited}
use Rattle.flat_link.specs.Links.{fields_flat, link_flat}
use Rattle.flat_refusal.specs.Refusals.{refusal_of}
use Rattle.flat_answers.specs.Links.{link_answer, item_answer, step_answer, entry_answer}
use Rattle.flat_answers.specs.Edits.{edit_answer, index_answer, index_edit_answer}
use Rattle.flat_answers.specs.Providers.{provider_answer, provider_found_answer, authority_answer, authority_found_answer}
use Rattle.link.specs.Answers.{got_step, link_got}
use Rattle.rct_entries.specs.Entries.{got_entry}
use Rattle.rnt_entries.specs.Entries.{found_authority}
use Rattle.rnt_providers.specs.Providers.{got_provider}
use Rattle.std.specs.Prelude.{Err, Ok, Result}
use Rattle.wire.specs.Verdict.{Fine, verdict_of}
use Rattle.link.specs.declared.LinkInfo.{LinkInfo}

-- ---- zeros

abbrev no-refusal : Refusal
no-refusal = record { number = 0; first = 0; second = 0 }

abbrev zero-item : LinkItem
zero-item = record { language_code = record { first = 0; second = 0; third = 0 }; promotional_text = record { start = 0; length = 0 } }

abbrev zero-provider : ResolutionProvider
zero-provider =
    record {
      reserved_info_length = 0;
      name = record { start = 0; length = 0 };
      reserved_descriptors_length = 0;
      descriptors = record { start = 0; length = 0 };
      authorities_at = 0;
      end = 0;
    }

abbrev zero-authority : CridAuthority
zero-authority =
    record {
      name = record { start = 0; length = 0 };
      reserved = 0;
      crid_authority_policy = 0;
      descriptors = record { start = 0; length = 0 };
    }

-- ---- a verdict: number and figures as they are, or three zeros

pub refused-told : (r : Refusal) → refusal_of (Err r) ≡ r
unfolding refusal_of
refused-told r = refl

pub fine-told : refusal_of Fine ≡ no-refusal
unfolding refusal_of
fine-told = refl

-- ---- answers that a verdict stands in: it, and each number under its name, whatever it is

-- what a building's answer has besides the verdict; an edit's has a total
abbrev index_got : Result RctIndex Refusal → RctIndex
index_got (Ok i) = i
index_got (Err r) = no_index

pub edit-told : (e : Result ℕ Refusal) → edit_answer e ≡ record { refusal = refusal_of (verdict_of e); total = total_got e }
unfolding edit_answer refusal_of
edit-told (Ok n) = refl
edit-told (Err r) = refl

pub index-told : (b : Result RctIndex Refusal) → index_answer b ≡ record { refusal = refusal_of (verdict_of b); index = index_got b }
unfolding index_answer refusal_of
index-told (Ok i) = refl
index-told (Err r) = refl

pub index-edit-told : (e : IndexEdited) → index_edit_answer e ≡ record { refusal = refusal_of (verdict_of e.edited); total = total_got e.edited; index = e.index }
unfolding index_edit_answer
index-edit-told e = rw (edit-told e.edited) refl

pub link-told : (k : Result LinkInfo Refusal) → link_answer k ≡ record { refusal = refusal_of (verdict_of k); link = link_flat (link_got k) }
unfolding link_answer refusal_of
link-told (Ok k) = refl
link-told (Err r) = refl

-- ---- where the call did its work

pub item-got : (i : LinkItem) → item_answer (Ok i) ≡ record { refusal = no-refusal; item = i }
unfolding item_answer
item-got i = refl

pub step-got : (i : LinkItem) (p : ℕ) → step_answer (got_step i p) ≡ record { refusal = no-refusal; item = i; next = p }
unfolding step_answer
step-got i p = refl

pub entry-got : (f : LinkFields) (i p : ℕ) → entry_answer (got_entry f i p) ≡ record { refusal = no-refusal; fields = fields_flat f; items_at = i; next = p }
unfolding entry_answer
entry-got f i p = refl

pub provider-got : (p : ResolutionProvider) (n : ℕ) → provider_answer (got_provider p n) ≡ record { refusal = no-refusal; provider = p; number_of_authorities = n }
unfolding provider_answer
provider-got p n = refl

pub provider-at-got : (p : ResolutionProvider) → provider_found_answer (Ok p) ≡ record { refusal = no-refusal; provider = p }
unfolding provider_found_answer
provider-at-got p = refl

pub authority-got : (a : CridAuthority) → authority_answer (Ok a) ≡ record { refusal = no-refusal; authority = a }
unfolding authority_answer
authority-got a = refl

pub authority-at-got : (a : CridAuthority) (p : ℕ) → authority_found_answer (found_authority a p) ≡ record { refusal = no-refusal; authority = a; next = p }
unfolding authority_found_answer
authority-at-got a p = refl

pub edit-got : (n : ℕ) → edit_answer (Ok n) ≡ record { refusal = no-refusal; total = n }
unfolding edit_answer
edit-got n = refl

pub index-got : (i : RctIndex) → index_answer (Ok i) ≡ record { refusal = no-refusal; index = i }
unfolding index_answer
index-got i = refl

pub index-edit-got : (n : ℕ) (i : RctIndex) → index_edit_answer (record { edited = Ok n; index = i }) ≡ record { refusal = no-refusal; total = n; index = i }
unfolding index_edit_answer edit_answer
index-edit-got n i = refl

-- ---- where it refused: an index is as it was handed in; of an entry's fields flat_link has that they are zeros (`no_fields`)

module _ (r : Refusal) where
  pub item_refused : item_answer (Err r) ≡ record { refusal = r; item = zero-item }
  unfolding item_answer
  item_refused = refl

  pub step-refused : step_answer (Err r) ≡ record { refusal = r; item = zero-item; next = 0 }
  unfolding step_answer
  step-refused = refl

  pub entry-refused : entry_answer (Err r) ≡ record { refusal = r; fields = fields_flat no_fields; items_at = 0; next = 0 }
  unfolding entry_answer
  entry-refused = refl

  pub provider-refused : provider_answer (Err r) ≡ record { refusal = r; provider = zero-provider; number_of_authorities = 0 }
  unfolding provider_answer
  provider-refused = refl

  pub provider-at-refused : provider_found_answer (Err r) ≡ record { refusal = r; provider = zero-provider }
  unfolding provider_found_answer
  provider-at-refused = refl

  pub authority-refused : authority_answer (Err r) ≡ record { refusal = r; authority = zero-authority }
  unfolding authority_answer
  authority-refused = refl

  pub authority-at-refused : authority_found_answer (Err r) ≡ record { refusal = r; authority = zero-authority; next = 0 }
  unfolding authority_found_answer
  authority-at-refused = refl

  pub edit-refused : edit_answer (Err r) ≡ record { refusal = r; total = 0 }
  unfolding edit_answer
  edit-refused = refl

  pub index-refused : index_answer (Err r) ≡ record { refusal = r; index = no_index }
  unfolding index_answer
  index-refused = refl

  pub index-edit-refused : (i : RctIndex) → index_edit_answer (record { edited = Err r; index = i }) ≡ record { refusal = r; total = 0; index = i }
  unfolding index_edit_answer edit_answer
  index-edit-refused i = refl
