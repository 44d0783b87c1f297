-- Request 101's calls by number on the sample section, byte by byte: its one provider and that one's one authority, and 21 behind either.
-- Assumes nothing.
use Prim.Native.Nat.{ℕ}
use mathlib.Core.Path.{◌≡◌, refl}
use Rattle.length_field.specs.Lengths.{long_row, block_rows}
use Rattle.wire.specs.Runs.{places_to}
use Rattle.spans.specs.Spans.{span}
use Rattle.wire.specs.Verdict.{refuse, ◌▷◌}
use Rattle.wire.specs.declared.verdict.Refusal.{Refusal}
use Rattle.frame.specs.Reading.{opened, reading_by}
use Rattle.rnt.specs.Reading.{named_verdict, provider_head, provider_verdict, common_row, payload_verdict, provider_rows, authority_rows}
use Rattle.rnt.specs.declared.CridAuthority.{CridAuthority}
use Rattle.rnt.specs.declared.ResolutionProvider.{ResolutionProvider}
use Rattle.rnt.proofs.Rows.{sample}
use Rattle.rnt_providers.specs.Providers.{provider_by, authority_by, numbered_provider, numbered_authority, got_provider}
use Rattle.std.specs.Prelude.{Err, Ok}

abbrev none : ℕ → ℕ → Refusal
none k n = record { number = 21; first = k; second = n }

-- the provider stands at 13, its info at 15
abbrev sample_provider : ResolutionProvider
sample_provider =
    record { reserved_info_length = 7; name = span 16 2; reserved_descriptors_length = 5; descriptors = span 20 1; authorities_at = 21; end = 27 }

abbrev sample_authority : CridAuthority
sample_authority = record { name = span 22 1; reserved = 1; crid_authority_policy = 2; descriptors = span 25 2 }

pub record Rows : Type 0 where
  pub provider_0 : numbered_provider sample 0 ≡ got_provider sample_provider 1
  pub provider_1 : numbered_provider sample 1 ≡ Err (none 1 1)
  pub authority_0 : numbered_authority sample 0 0 ≡ Ok sample_authority
  pub authority_of_1 : numbered_authority sample 1 0 ≡ Err (none 1 1)
  pub authority_2 : numbered_authority sample 0 2 ≡ Err (none 2 1)

pub rows : Rows
unfolding numbered_provider provider_by numbered_authority authority_by provider_rows authority_rows reading_by opened payload_verdict common_row long_row provider_verdict provider_head named_verdict block_rows places_to refuse ◌▷◌
rows = record { provider_0 = refl; provider_1 = refl; authority_0 = refl; authority_of_1 = refl; authority_2 = refl }
