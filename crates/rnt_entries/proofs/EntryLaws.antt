-- What a provider and an authority by their places answer, case by case, over plain lists.
-- Assumes nothing.
use mathlib.Core.Path.{◌≡◌}
use Prim.Native.Nat.{ℕ}
use mathlib.Core.List.{List}
use Rattle.wire.specs.declared.verdict.Refusal.{Refusal}
use Rattle.rnt.specs.Reading.{named_end, authority_verdict, provider_head}
use Rattle.rnt.specs.Records.{provider_info, authority_info}
use Rattle.rnt_entries.specs.Entries.{provider_answer, provider_from, authority_answer, authority_from, found_authority}
use Rattle.rnt_heads.specs.Heads.{end_in}
use Rattle.std.specs.Prelude.{Err, Ok}
use Rattle.wire.specs.Verdict.{Fine}

module _ (xs : List ℕ) (e p : ℕ) where
  pub provider-found : provider_head xs (end_in xs e) p ≡ Fine → Ok (provider_info xs p) ≡ provider_from xs e p
  unfolding provider_from provider_answer
  provider-found v = rw v

  pub provider-not : (r : Refusal) → provider_head xs (end_in xs e) p ≡ Err r → Err r ≡ provider_from xs e p
  unfolding provider_from provider_answer
  provider-not r v = rw v

  pub authority-found : (q : ℕ) → authority_verdict xs (end_in xs e) p ≡ Fine → named_end xs p ≡ q → found_authority (authority_info xs p) q ≡ authority_from xs e p
  unfolding authority_from authority_answer
  authority-found q v is = rw (v, is)

  pub authority-not : (r : Refusal) → authority_verdict xs (end_in xs e) p ≡ Err r → Err r ≡ authority_from xs e p
  unfolding authority_from authority_answer
  authority-not r v = rw v
