-- Which numbers a provider and an authority by place can answer at all: 42 to 45, and 46.
-- Assumes nothing.
use Prim.Native.Nat.{ℕ}
use mathlib.Core.Path.{◌≡◌}
use mathlib.Core.Bool.{true}
use mathlib.Core.List.{List}
use native.Mathlib.Omega.{arith}
use Rattle.wire.specs.declared.verdict.Refusal.{Refusal}
use Rattle.wire.proofs.Among.{listed, Among}
use Rattle.rnt.specs.Reading.{authority_verdict, provider_head}
use Rattle.rnt.specs.declared.CridAuthority.{CridAuthority}
use Rattle.rnt.specs.declared.ResolutionProvider.{ResolutionProvider}
use Rattle.rnt.proofs.Listed.{head_reading, authority_reading, head-listed, authority-listed}
use Rattle.rnt_heads.specs.Heads.{end_in}
use Rattle.rnt_entries.specs.Entries.{provider_answer, provider_from, authority_answer, authority_from}
use Rattle.std.specs.Prelude.{Err, Ok}
use Rattle.wire.specs.Verdict.{Verdict}

pub provider-from-listed : (xs : List ℕ) (e p : ℕ) (r : Refusal) → provider_from xs e p ≡ Err r → listed r.number head_reading ≡ true
unfolding provider_from provider_answer
provider-from-listed xs e p r h = by (provider_head xs (end_in xs e) p) _ (head-listed xs (end_in xs e) p) h
  where
    by : (v : Verdict) (k : ResolutionProvider) → Among head_reading v → provider_answer v k ≡ Err r → listed r.number head_reading ≡ true
    by (Ok _) k a g = let z : ◌≡◌ {A = ℕ} 0 1 = cc in absurd (omega arith)
    by (Err q) k a g = a r (cc)

pub authority-from-listed : (xs : List ℕ) (e p : ℕ) (r : Refusal) → authority_from xs e p ≡ Err r → listed r.number authority_reading ≡ true
unfolding authority_from authority_answer
authority-from-listed xs e p r h = by (authority_verdict xs (end_in xs e) p) _ _ (authority-listed xs (end_in xs e) p) h
  where
    by : (v : Verdict) (k : CridAuthority) (q : ℕ) → Among authority_reading v → authority_answer v k q ≡ Err r → listed r.number authority_reading ≡ true
    by (Ok _) k q a g = let z : ◌≡◌ {A = ℕ} 0 1 = cc in absurd (omega arith)
    by (Err s) k q a g = a r (cc)
