-- The section that a caller puts together from what the calls answer of a lent text: the whole reading, then provider by number and authority by number, as many as their answers say. Of a refused call it has nothing.
-- Assumes nothing.
use Rattle.std.specs.Prelude.{ℕ, zero, suc, List, [], ◌∷◌, Err, Ok, Result}
use Rattle.spans.specs.Spans.{span_of}
use Rattle.section_header.specs.Reading.{no_header}
use Rattle.rnt.specs.Syntax.{Authority, Provider, Section}
use Rattle.rnt.specs.Reading.{plain}
use Rattle.rnt_reader.specs.Sections.{section_read}
use Rattle.rnt_providers.specs.Providers.{numbered_provider, numbered_authority}
use Rattle.rnt.specs.declared.CridAuthority.{CridAuthority}
use Rattle.rnt_providers.specs.declared.ProviderRead.{ProviderRead}
use Rattle.rnt_reader.specs.declared.RntSection.{RntSection}
use Rattle.wire.specs.declared.verdict.Refusal.{Refusal}

-- what is told of the numbers from k on, n of them
abbrev pub asked : {A : Type 0} → ℕ → ℕ → (ℕ → A) → List A
asked zero k tell = []
asked (suc n) k tell = tell k ∷ asked n (suc k) tell

unfoldable pub authority_told : List ℕ → Result CridAuthority Refusal → Authority
authority_told text (Ok a) =
    record { name = span_of text a.name; reserved = a.reserved; policy = a.crid_authority_policy; descriptors = span_of text a.descriptors }
authority_told text (Err r) = record { name = []; reserved = 0; policy = 0; descriptors = [] }

unfoldable pub provider_told : List ℕ → Result ProviderRead Refusal → (ℕ → Result CridAuthority Refusal) → Provider
provider_told text (Ok got) authorities =
    record {
      reserved = got.provider.reserved_info_length;
      named = record { name = span_of text got.provider.name; descriptors = record { beside = got.provider.reserved_descriptors_length; body = span_of text got.provider.descriptors } };
      authorities = asked got.number_of_authorities 0 (λ j. authority_told text (authorities j));
    }
provider_told text (Err r) authorities =
    record { reserved = 0; named = record { name = []; descriptors = record { beside = 0; body = [] } }; authorities = [] }

unfoldable pub section_told : List ℕ → Result RntSection Refusal → (ℕ → Result ProviderRead Refusal) → (ℕ → ℕ → Result CridAuthority Refusal) → Section
section_told text (Ok s) providers authorities =
    record {
      header = s.header;
      common = record { beside = s.reserved_common_descriptors_length; body = span_of text s.common_descriptors };
      providers = asked s.number_of_providers 0 (λ k. provider_told text (providers k) (authorities k));
    }
section_told text (Err r) providers authorities =
    record { header = record { section = no_header; context_id_type = 0 }; common = record { beside = 0; body = [] }; providers = [] }

-- by the calls' answers
unfoldable pub told : List ℕ → Section
told xs = section_told xs (section_read (plain xs) xs) (numbered_provider xs) (numbered_authority xs)
