-- The parts of an authority that are handed back, as spans of the section: what the record of its call says, and nothing at its start where the call refuses.
-- Assumes nothing.
use Rattle.std.specs.Prelude.{ℕ, List, Err, Ok, Result}
use Rattle.spans.specs.Spans.{span}
use Rattle.spans.specs.declared.Span.{Span}
use Rattle.rnt_providers.specs.Providers.{numbered_authority}
use Rattle.rnt.specs.declared.CridAuthority.{CridAuthority}
use Rattle.wire.specs.declared.verdict.Refusal.{Refusal}

-- ---- of an answer

unfoldable pub authority_name_of : Result CridAuthority Refusal → Span
authority_name_of (Ok k) = k.name
authority_name_of (Err r) = span 0 0

unfoldable pub authority_descriptors_of : Result CridAuthority Refusal → Span
authority_descriptors_of (Ok k) = k.descriptors
authority_descriptors_of (Err r) = span 0 0

-- ---- of a section

abbrev pub authority_name : List ℕ → ℕ → ℕ → Span
authority_name xs k j = authority_name_of (numbered_authority xs k j)

abbrev pub authority_descriptors : List ℕ → ℕ → ℕ → Span
authority_descriptors xs k j = authority_descriptors_of (numbered_authority xs k j)
