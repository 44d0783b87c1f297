-- The answers of provider by number and authority by number.
-- Assumes nothing.
use Rattle.std.specs.Prelude.{ℕ, List, Err, Ok, Result}
use Rattle.rnt.specs.Reading.{provider_place, authority_count, authority_place, provider_rows, authority_rows}
use Rattle.rnt.specs.Records.{provider_info, authority_info}
use Rattle.rnt.specs.declared.ResolutionProvider.{ResolutionProvider}
use Rattle.rnt.specs.declared.CridAuthority.{CridAuthority}
use Rattle.rnt_providers.specs.declared.ProviderRead.{ProviderRead}
use Rattle.wire.specs.Verdict.{Verdict}
use Rattle.wire.specs.declared.verdict.Refusal.{Refusal}

abbrev pub got_provider : ResolutionProvider → ℕ → Result ProviderRead Refusal
got_provider k n = Ok (record { provider = k; number_of_authorities = n })

-- a record, or the refusal
unfoldable pub provider_by : Verdict → ResolutionProvider → ℕ → Result ProviderRead Refusal
provider_by (Ok _) k n = got_provider k n
provider_by (Err r) k n = Err r

unfoldable pub authority_by : Verdict → CridAuthority → Result CridAuthority Refusal
authority_by (Ok _) k = Ok k
authority_by (Err r) k = Err r

-- provider k with the number of its authorities: the plain reading, then 21 with the number and the count
unfoldable pub numbered_provider : List ℕ → ℕ → Result ProviderRead Refusal
numbered_provider xs k = provider_by (provider_rows xs k) (provider_info xs (provider_place xs k)) (authority_count xs (provider_place xs k))

-- its authority j: 21 again, with the authority's number and their count
unfoldable pub numbered_authority : List ℕ → ℕ → ℕ → Result CridAuthority Refusal
numbered_authority xs k j = authority_by (authority_rows xs k j) (authority_info xs (authority_place xs (provider_place xs k) j))
