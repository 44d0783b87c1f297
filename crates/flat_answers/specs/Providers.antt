-- Providers and authorities as numbers.
-- Assumes nothing.
use Rattle.spans.specs.Spans.{span}
use Rattle.rnt.specs.declared.CridAuthority.{CridAuthority}
use Rattle.rnt.specs.declared.ResolutionProvider.{ResolutionProvider}
use Rattle.flat_refusal.specs.Refusals.{no_refusal}
use Rattle.flat_answers.specs.declared.providers.ProviderAnswer.{ProviderAnswer}
use Rattle.flat_answers.specs.declared.providers.ProviderFoundAnswer.{ProviderFoundAnswer}
use Rattle.flat_answers.specs.declared.providers.AuthorityAnswer.{AuthorityAnswer}
use Rattle.flat_answers.specs.declared.providers.AuthorityFoundAnswer.{AuthorityFoundAnswer}
use Rattle.rnt_entries.specs.declared.AuthorityFound.{AuthorityFound}
use Rattle.rnt_providers.specs.declared.ProviderRead.{ProviderRead}
use Rattle.std.specs.Prelude.{Err, Ok, Result}
use Rattle.wire.specs.declared.verdict.Refusal.{Refusal}

abbrev pub no_provider : ResolutionProvider
no_provider =
    record {
      reserved_info_length = 0;
      name = span 0 0;
      reserved_descriptors_length = 0;
      descriptors = span 0 0;
      authorities_at = 0;
      end = 0;
    }

abbrev pub no_authority : CridAuthority
no_authority = record { name = span 0 0; reserved = 0; crid_authority_policy = 0; descriptors = span 0 0 }

unfoldable pub provider_answer : Result ProviderRead Refusal → ProviderAnswer
provider_answer (Ok got) = record { refusal = no_refusal; provider = got.provider; number_of_authorities = got.number_of_authorities }
provider_answer (Err r) = record { refusal = r; provider = no_provider; number_of_authorities = 0 }

unfoldable pub provider_found_answer : Result ResolutionProvider Refusal → ProviderFoundAnswer
provider_found_answer (Ok p) = record { refusal = no_refusal; provider = p }
provider_found_answer (Err r) = record { refusal = r; provider = no_provider }

unfoldable pub authority_answer : Result CridAuthority Refusal → AuthorityAnswer
authority_answer (Ok a) = record { refusal = no_refusal; authority = a }
authority_answer (Err r) = record { refusal = r; authority = no_authority }

unfoldable pub authority_found_answer : Result AuthorityFound Refusal → AuthorityFoundAnswer
authority_found_answer (Ok found) = record { refusal = no_refusal; authority = found.authority; next = found.next }
authority_found_answer (Err r) = record { refusal = r; authority = no_authority; next = 0 }
