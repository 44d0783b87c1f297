-- What the records by number stand for: the section's provider of that number and its authority of that number. Which numbers the calls can refuse with.
-- Assumes nothing.
use Prim.Native.Nat.{ℕ}
use mathlib.Core.Path.{◌≡◌, refl, sym, ap, ◌∙◌}
use mathlib.Core.Bool.{true}
use mathlib.Core.List.{List}
use native.Mathlib.Omega.{arith}
use lib.ListN.{length, get_or}
use Rattle.spans.specs.Spans.{span_of}
use Rattle.wire.specs.declared.verdict.Refusal.{Refusal}
use Rattle.wire.proofs.Among.{listed, Among}
use Rattle.rnt.specs.Syntax.{Authority, Provider}
use Rattle.rnt.specs.Reading.{provider_place, authority_count, authority_place, authority_at, provider_at, section_at, provider_rows, authority_rows}
use Rattle.rnt.specs.Records.{provider_info, authority_info}
use Rattle.rnt.specs.declared.CridAuthority.{CridAuthority}
use Rattle.rnt.specs.declared.ResolutionProvider.{ResolutionProvider}
use Rattle.rnt.proofs.Listed.{numbered_reading, provider-rows-listed, authority-rows-listed}
use Rattle.rnt.proofs.Numbers.{provider-rows, authority-rows, provider-is, authority-is, authority-count-is}
use Rattle.rnt_providers.specs.Providers.{provider_by, authority_by, numbered_provider, numbered_authority}
use Rattle.std.specs.Prelude.{Err, Ok}
use Rattle.wire.specs.Verdict.{Fine, Verdict}

-- ---- a record and the text that it has ranges of stand for a provider of so many authorities, and for an authority

pub record ProviderStands (text : List ℕ) (k : ResolutionProvider) (n : ℕ) (p : Provider) : Type 0 where
  pub reserved : k.reserved_info_length ≡ p.reserved
  pub name : span_of text k.name ≡ p.named.name
  pub beside : k.reserved_descriptors_length ≡ p.named.descriptors.beside
  pub descriptors : span_of text k.descriptors ≡ p.named.descriptors.body
  pub number : n ≡ length p.authorities

pub record AuthorityStands (text : List ℕ) (k : CridAuthority) (a : Authority) : Type 0 where
  pub name : span_of text k.name ≡ a.name
  pub reserved : k.reserved ≡ a.reserved
  pub policy : k.crid_authority_policy ≡ a.policy
  pub descriptors : span_of text k.descriptors ≡ a.descriptors

provider-at-image : (xs : List ℕ) (p : ℕ) → ProviderStands xs (provider_info xs p) (authority_count xs p) (provider_at xs p)
unfolding provider_at
provider-at-image xs p = record { reserved = refl; name = refl; beside = refl; descriptors = refl; number = sym (authority-count-is xs p) }

authority-at-image : (xs : List ℕ) (p : ℕ) → AuthorityStands xs (authority_info xs p) (authority_at xs p)
authority-at-image xs p = record { name = refl; reserved = refl; policy = refl; descriptors = refl }

pub provider-image : (xs : List ℕ) (k : ℕ) (d : Provider) → provider_rows xs k ≡ Fine
    → ProviderStands xs (provider_info xs (provider_place xs k)) (authority_count xs (provider_place xs k)) (get_or (section_at xs).providers k d)
provider-image xs k d v = let o = provider-rows xs k v in rw (provider-is xs o.0 k o.1 d) (provider-at-image xs (provider_place xs k))

pub authority-image : (xs : List ℕ) (k j : ℕ) (d : Provider) (a : Authority) → authority_rows xs k j ≡ Fine
    → AuthorityStands xs (authority_info xs (authority_place xs (provider_place xs k) j)) (get_or (get_or (section_at xs).providers k d).authorities j a)
authority-image xs k j d a v =
    let o = authority-rows xs k j v in
    let q = provider-rows xs k o.0 in
    rw (provider-is xs q.0 k q.1 d, authority-is xs q.0 k q.1 j o.1 a) (authority-at-image xs (authority_place xs (provider_place xs k) j))

-- ---- refusals: those of the plain reading, and 21

pub read-provider-listed : (xs : List ℕ) (k : ℕ) (r : Refusal) → numbered_provider xs k ≡ Err r → listed r.number numbered_reading ≡ true
unfolding numbered_provider provider_by
read-provider-listed xs k r e = by (provider_rows xs k) _ _ (provider-rows-listed xs k) e
  where
    by : (v : Verdict) (p : ResolutionProvider) (n : ℕ) → Among numbered_reading v → provider_by v p n ≡ Err r → listed r.number numbered_reading ≡ true
    by (Ok _) p n a g = let z : ◌≡◌ {A = ℕ} 0 1 = cc in absurd (omega arith)
    by (Err q) p n a g = a r (cc)

pub read-authority-listed : (xs : List ℕ) (k j : ℕ) (r : Refusal) → numbered_authority xs k j ≡ Err r → listed r.number numbered_reading ≡ true
unfolding numbered_authority authority_by
read-authority-listed xs k j r e = by (authority_rows xs k j) _ (authority-rows-listed xs k j) e
  where
    by : (v : Verdict) (p : CridAuthority) → Among numbered_reading v → authority_by v p ≡ Err r → listed r.number numbered_reading ≡ true
    by (Ok _) p a g = let z : ◌≡◌ {A = ℕ} 0 1 = cc in absurd (omega arith)
    by (Err q) p a g = a r (cc)
