-- The records of a provider and of an authority as calls answer them: ranges of the section, no bytes.
-- Assumes nothing.
use Rattle.std.specs.Prelude.{ℕ, ◌+◌, List, get_or}
use Rattle.length_field.specs.Lengths.{length_at, beside_at, block_end}
use Rattle.spans.specs.Spans.{span}
use Rattle.spans.specs.declared.Span.{Span}
use Rattle.rnt.specs.Reading.{name_end, named_end, policy_of, reserved_of, info_place}
use Rattle.rnt.specs.declared.ResolutionProvider.{ResolutionProvider}
use Rattle.rnt.specs.declared.CridAuthority.{CridAuthority}

-- of the name and descriptors at p: where the name stands, and the descriptors
abbrev pub name_span : List ℕ → ℕ → Span
name_span xs p = span (p + 1) (get_or xs p 0)

abbrev pub descriptors_span : List ℕ → ℕ → Span
descriptors_span xs p = span (name_end xs p + 2) (length_at xs (name_end xs p))

-- the provider at p
abbrev pub provider_info : List ℕ → ℕ → ResolutionProvider
provider_info xs p =
    record {
      reserved_info_length = beside_at xs p;
      name = name_span xs (info_place p);
      reserved_descriptors_length = beside_at xs (name_end xs (info_place p));
      descriptors = descriptors_span xs (info_place p);
      authorities_at = named_end xs (info_place p);
      end = block_end xs p;
    }

-- the authority at p
abbrev pub authority_info : List ℕ → ℕ → CridAuthority
authority_info xs p =
    record {
      name = name_span xs p;
      reserved = reserved_of (beside_at xs (name_end xs p));
      crid_authority_policy = policy_of (beside_at xs (name_end xs p));
      descriptors = descriptors_span xs p;
    }
