-- The common descriptors and the parts of a provider that are handed back, as spans of the section: what the records of the calls say, and nothing at its start where a call refuses.
-- Assumes nothing.
use Rattle.std.specs.Prelude.{ℕ, List, Err, Ok, Result}
use Rattle.spans.specs.Spans.{span}
use Rattle.spans.specs.declared.Span.{Span}
use Rattle.rnt.specs.Reading.{plain}
use Rattle.rnt_reader.specs.Sections.{section_read}
use Rattle.rnt_providers.specs.Providers.{numbered_provider}
use Rattle.rnt_providers.specs.declared.ProviderRead.{ProviderRead}
use Rattle.rnt_reader.specs.declared.RntSection.{RntSection}
use Rattle.wire.specs.declared.verdict.Refusal.{Refusal}

-- ---- of an answer

unfoldable pub common_of : Result RntSection Refusal → Span
common_of (Ok k) = k.common_descriptors
common_of (Err r) = span 0 0

unfoldable pub provider_name_of : Result ProviderRead Refusal → Span
provider_name_of (Ok got) = got.provider.name
provider_name_of (Err r) = span 0 0

unfoldable pub provider_descriptors_of : Result ProviderRead Refusal → Span
provider_descriptors_of (Ok got) = got.provider.descriptors
provider_descriptors_of (Err r) = span 0 0

-- ---- of a section

abbrev pub common_span : List ℕ → Span
common_span xs = common_of (section_read (plain xs) xs)

abbrev pub provider_name : List ℕ → ℕ → Span
provider_name xs k = provider_name_of (numbered_provider xs k)

abbrev pub provider_descriptors : List ℕ → ℕ → Span
provider_descriptors xs k = provider_descriptors_of (numbered_provider xs k)
