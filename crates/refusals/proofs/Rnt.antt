-- What the calls on a resolution notification section answer.
-- Assumes nothing.
use Prim.Native.Nat.{ℕ}
use mathlib.Core.Path.{◌≡◌, refl}
use mathlib.Core.List.{List, ◌∷◌}
use Rattle.wire.specs.Refusals.{not_rnt}
use Rattle.wire.specs.Verdict.{reached}
use Rattle.wire.specs.declared.verdict.Refusal.{Refusal}
use Rattle.frame.specs.Reading.{total_of, opened}
use Rattle.frame.specs.declared.Demands.{Demands}
use Rattle.rnt.specs.Syntax.{rnt}
use Rattle.length_field.specs.Lengths.{block_end}
use Rattle.rnt.specs.Reading.{named_end, info_place, authority_verdict, provider_head, reading, plain, checked}
use Rattle.rnt.proofs.Listed.{plain_reading, demanded_reading, checked_reading, head_reading, authority_reading, numbered_reading}
use Rattle.rnt_heads.specs.Heads.{end_in, headed}
use Rattle.rnt_heads.proofs.Listed.{past-head-listed, past-authority-listed}
use Rattle.rnt_entries.specs.Entries.{provider_from, authority_from}
use Rattle.rnt_walker.specs.Places.{places_at, walked}
use Rattle.rnt_walker.proofs.Listed.{read-places-listed}
use Rattle.rnt_entries.proofs.Listed.{provider-from-listed, authority-from-listed}
use Rattle.rnt_readings.proofs.Listed.{plain-places-listed, checked-places-listed}
use Rattle.rnt_reader.specs.Sections.{section_read}
use Rattle.rnt_reader.proofs.Images.{read-section-listed, check-section-listed}
use Rattle.rnt_providers.specs.Providers.{numbered_provider, numbered_authority}
use Rattle.rnt_providers.proofs.Images.{read-provider-listed, read-authority-listed}
use Rattle.refusals.specs.FixedList.{fixed_list}
use Rattle.refusals.proofs.Frames.{open-given}
use Rattle.refusals.proofs.Given.{OnList, on_list}
use Rattle.std.specs.Prelude.{Err}

module _ (xs : List ℕ) (r : Refusal) where
  -- ---- the opening, by this table

  pub open-rnt-given : (d : Demands) → reached (opened rnt d xs) (total_of xs) ≡ Err r → OnList r
  open-rnt-given d e = on_list (not_rnt ∷ fixed_list) r refl (open-given rnt d xs r e)

  -- ---- reading

  pub read-section-given : section_read (plain xs) xs ≡ Err r → OnList r
  read-section-given e = on_list plain_reading r refl (read-section-listed xs r e)

  pub check-section-given : section_read (checked xs) xs ≡ Err r → OnList r
  check-section-given e = on_list checked_reading r refl (check-section-listed xs r e)

  pub read-provider-given : (k : ℕ) → numbered_provider xs k ≡ Err r → OnList r
  read-provider-given k e = on_list numbered_reading r refl (read-provider-listed xs k r e)

  pub read-authority-given : (k j : ℕ) → numbered_authority xs k j ≡ Err r → OnList r
  read-authority-given k j e = on_list numbered_reading r refl (read-authority-listed xs k j r e)

  -- ---- walks; a provider and an authority by their places

  pub past-head-given : (e p : ℕ) → headed (provider_head xs (end_in xs e) p) (named_end xs (info_place p)) (block_end xs p) ≡ Err r → OnList r
  past-head-given e p h = on_list head_reading r refl (past-head-listed xs e p r h)

  pub past-authority-given : (e p : ℕ) → reached (authority_verdict xs (end_in xs e) p) (named_end xs p) ≡ Err r → OnList r
  past-authority-given e p h = on_list authority_reading r refl (past-authority-listed xs e p r h)

  pub provider-from-given : (e p : ℕ) → provider_from xs e p ≡ Err r → OnList r
  provider-from-given e p h = on_list head_reading r refl (provider-from-listed xs e p r h)

  pub authority-from-given : (e p : ℕ) → authority_from xs e p ≡ Err r → OnList r
  authority-from-given e p h = on_list authority_reading r refl (authority-from-listed xs e p r h)

  pub read-places-given : (d : Demands) (k j : ℕ) → walked (reading d xs) (places_at xs k j) ≡ Err r → OnList r
  read-places-given d k j e = on_list demanded_reading r refl (read-places-listed d xs k j r e)

  pub plain-places-given : (k j : ℕ) → walked (plain xs) (places_at xs k j) ≡ Err r → OnList r
  plain-places-given k j e = on_list plain_reading r refl (plain-places-listed xs k j r e)

  pub checked-places-given : (k j : ℕ) → walked (checked xs) (places_at xs k j) ≡ Err r → OnList r
  checked-places-given k j e = on_list checked_reading r refl (checked-places-listed xs k j r e)
