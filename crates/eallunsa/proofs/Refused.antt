-- No call refuses with the number 0, by which an answer says that there is no refusal.
-- Assumes nothing.
use Prim.Native.Nat.{ℕ}
use mathlib.Core.Path.{◌≡◌, refl, sym, ap, ◌∙◌}
use mathlib.Core.List.{List}
use Rattle.wire.specs.declared.verdict.Refusal.{Refusal}
use Rattle.link.specs.Answers.{item_from}
use Rattle.link.specs.declared.LinkInfo.{LinkInfo}
use Rattle.link.specs.declared.Range.{Range}
use Rattle.rct.specs.Reading as rct
use Rattle.rct.specs.declared.RctHeader.{RctHeader}
use Rattle.rct_entries.specs.Entries.{entry_read}
use Rattle.rct_reader.specs.Sections as related
use Rattle.rct_links.specs.Links.{numbered_link, numbered_item}
use Rattle.rct_edit.specs.Answers.{answer}
use Rattle.rct_edit.specs.Calls.{making, appending, replacing}
use Rattle.rct_index.specs.Building.{building}
use Rattle.rct_index.specs.Editing.{appending_indexed, replacing_indexed}
use Rattle.rct_index.specs.declared.RctIndex.{RctIndex}
use Rattle.rnt.specs.Reading as rnt
use Rattle.rnt_entries.specs.Entries.{provider_from, authority_from}
use Rattle.rnt_reader.specs.Sections as resolution
use Rattle.rnt_providers.specs.Providers.{numbered_provider, numbered_authority}
use Rattle.flat_refusal.specs.Refusals.{refusal_of}
use Rattle.flat_sections.specs.Sections.{rct_numbers, rct_answer, rnt_numbers, rnt_answer}
use Rattle.flat_answers.specs.Links.{link_answer, item_answer, step_answer, entry_answer}
use Rattle.flat_answers.specs.Edits.{edit_answer, index_answer, index_edit_answer}
use Rattle.flat_answers.specs.Providers.{provider_answer, provider_found_answer, authority_answer, authority_found_answer}
use Rattle.flat_refusal.proofs.Numbers.{only-fine-is-0}
use Rattle.refusals.proofs.Given.{Given, OnList, never, never-refused}
use Rattle.refusals.proofs.Links.{item-from-given}
use Rattle.refusals.proofs.Rct as rct-given
use Rattle.refusals.proofs.Rnt as rnt-given
use Rattle.std.specs.Prelude.{Err, Ok}
use Rattle.wire.specs.Verdict.{reached, Fine, Verdict, verdict_of}
use Rattle.flat_answers.proofs.Told.{link-told}

-- of a verdict on the list, and of an answer b that is a refusal on the list
fine : (v : Verdict) → Given v → (refusal_of v).number ≡ 0 → v ≡ Fine
fine v g = only-fine-is-0 v (never 0 v refl g)

not-0 : {A : Type 0} (number : A → ℕ) (a b : A) (r : Refusal) → OnList r → a ≡ b → number b ≡ r.number → number a ≡ 0 → ⊥
not-0 number a b r o e n z = never-refused 0 r refl o (sym n ∙ sym (ap number e) ∙ z)

-- of an edit's answer, by its verdict
edit-fine : (v : Verdict) (n : ℕ) → Given v → (edit_answer (reached v n)).refusal.number ≡ 0 → v ≡ Fine
unfolding edit_answer reached refusal_of
edit-fine (Ok _) n g z = refl
edit-fine (Err r) n g z = fine (Err r) g z

-- ---- the related content section

module _ (xs : List ℕ) where
  pub rct-read-0 : (r : Refusal) → related.section_read (rct.plain xs) xs ≡ Err r → (rct_answer (related.section_read (rct.plain xs) xs)).refusal.number ≡ 0 → ⊥
  unfolding rct_answer rct_numbers
  rct-read-0 r e = not-0 (λ a. (rct_answer a).refusal.number) _ _ r (rct-given.read-section-given xs r e) e refl

  pub rct-check-0 : (r : Refusal) → related.section_read (rct.checked xs) xs ≡ Err r → (rct_answer (related.section_read (rct.checked xs) xs)).refusal.number ≡ 0 → ⊥
  unfolding rct_answer rct_numbers
  rct-check-0 r e = not-0 (λ a. (rct_answer a).refusal.number) _ _ r (rct-given.check-section-given xs r e) e refl

  pub rct-link-0 : (k : ℕ) → (link_answer (numbered_link xs k)).refusal.number ≡ 0 → verdict_of (numbered_link xs k) ≡ Fine
  rct-link-0 k z = fine _ (rct-given.read-link-given xs k) (sym (ap (λ a. a.refusal.number) (link-told (numbered_link xs k))) ∙ z)

  pub rct-item-0 : (k i : ℕ) (r : Refusal) → numbered_item xs k i ≡ Err r → (item_answer (numbered_item xs k i)).refusal.number ≡ 0 → ⊥
  unfolding item_answer
  rct-item-0 k i r e = not-0 (λ a. (item_answer a).refusal.number) _ _ r (rct-given.read-item-given xs k i r e) e refl

  pub rct-entry-0 : (p : ℕ) (r : Refusal) → entry_read xs p ≡ Err r → (entry_answer (entry_read xs p)).refusal.number ≡ 0 → ⊥
  unfolding entry_answer
  rct-entry-0 p r e = not-0 (λ a. (entry_answer a).refusal.number) _ _ r (rct-given.read-entry-given xs p r e) e refl

  pub item-from-0 : (p : ℕ) (r : Refusal) → item_from xs p ≡ Err r → (step_answer (item_from xs p)).refusal.number ≡ 0 → ⊥
  unfolding step_answer
  item-from-0 p r e = not-0 (λ a. (step_answer a).refusal.number) _ _ r (item-from-given xs p r e) e refl

  pub rct-make-0 : (h : RctHeader) (beside : ℕ) (t : List ℕ) (d : Range) → (edit_answer (answer (making xs h beside t d))).refusal.number ≡ 0 → (making xs h beside t d).verdict ≡ Fine
  rct-make-0 h beside t d = edit-fine _ _ (rct-given.make-given xs h beside t d)

  pub rct-append-0 : (t : List ℕ) (k : LinkInfo) → (edit_answer (answer (appending xs t k))).refusal.number ≡ 0 → (appending xs t k).verdict ≡ Fine
  rct-append-0 t k = edit-fine _ _ (rct-given.append-given xs t k)

  pub rct-replace-0 : (n : ℕ) (t : List ℕ) (k : LinkInfo) → (edit_answer (answer (replacing xs n t k))).refusal.number ≡ 0 → (replacing xs n t k).verdict ≡ Fine
  rct-replace-0 n t k = edit-fine _ _ (rct-given.replace-given xs n t k)

  pub rct-index-0 : (r : Refusal) → building xs ≡ Err r → (index_answer (building xs)).refusal.number ≡ 0 → ⊥
  unfolding index_answer
  rct-index-0 r e = not-0 (λ a. (index_answer a).refusal.number) _ _ r (rct-given.build-index-given xs r e) e refl

  pub rct-index-append-0 : (t : List ℕ) (k : LinkInfo) (i : RctIndex) (r : Refusal) → (appending_indexed xs t k i).edited ≡ Err r → (index_edit_answer (appending_indexed xs t k i)).refusal.number ≡ 0 → ⊥
  unfolding index_edit_answer edit_answer
  rct-index-append-0 t k i r e = not-0 (λ a. (edit_answer a).refusal.number) _ _ r (rct-given.append-indexed-given xs t k i r e) e refl

  pub rct-index-replace-0 : (n : ℕ) (t : List ℕ) (k : LinkInfo) (i : RctIndex) (r : Refusal) → (replacing_indexed xs n t k i).edited ≡ Err r → (index_edit_answer (replacing_indexed xs n t k i)).refusal.number ≡ 0 → ⊥
  unfolding index_edit_answer edit_answer
  rct-index-replace-0 n t k i r e = not-0 (λ a. (edit_answer a).refusal.number) _ _ r (rct-given.replace-indexed-given xs n t k i r e) e refl

-- ---- the resolution notification section

module _ (xs : List ℕ) (r : Refusal) where
  pub rnt-read-0 : resolution.section_read (rnt.plain xs) xs ≡ Err r → (rnt_answer (resolution.section_read (rnt.plain xs) xs)).refusal.number ≡ 0 → ⊥
  unfolding rnt_answer rnt_numbers
  rnt-read-0 e = not-0 (λ a. (rnt_answer a).refusal.number) _ _ r (rnt-given.read-section-given xs r e) e refl

  pub rnt-check-0 : resolution.section_read (rnt.checked xs) xs ≡ Err r → (rnt_answer (resolution.section_read (rnt.checked xs) xs)).refusal.number ≡ 0 → ⊥
  unfolding rnt_answer rnt_numbers
  rnt-check-0 e = not-0 (λ a. (rnt_answer a).refusal.number) _ _ r (rnt-given.check-section-given xs r e) e refl

  pub rnt-provider-0 : (k : ℕ) → numbered_provider xs k ≡ Err r → (provider_answer (numbered_provider xs k)).refusal.number ≡ 0 → ⊥
  unfolding provider_answer
  rnt-provider-0 k e = not-0 (λ a. (provider_answer a).refusal.number) _ _ r (rnt-given.read-provider-given xs r k e) e refl

  pub rnt-authority-0 : (k j : ℕ) → numbered_authority xs k j ≡ Err r → (authority_answer (numbered_authority xs k j)).refusal.number ≡ 0 → ⊥
  unfolding authority_answer
  rnt-authority-0 k j e = not-0 (λ a. (authority_answer a).refusal.number) _ _ r (rnt-given.read-authority-given xs r k j e) e refl

  pub rnt-provider-at-0 : (end p : ℕ) → provider_from xs end p ≡ Err r → (provider_found_answer (provider_from xs end p)).refusal.number ≡ 0 → ⊥
  unfolding provider_found_answer
  rnt-provider-at-0 end p e = not-0 (λ a. (provider_found_answer a).refusal.number) _ _ r (rnt-given.provider-from-given xs r end p e) e refl

  pub rnt-authority-at-0 : (end p : ℕ) → authority_from xs end p ≡ Err r → (authority_found_answer (authority_from xs end p)).refusal.number ≡ 0 → ⊥
  unfolding authority_found_answer
  rnt-authority-at-0 end p e = not-0 (λ a. (authority_found_answer a).refusal.number) _ _ r (rnt-given.authority-from-given xs r end p e) e refl
