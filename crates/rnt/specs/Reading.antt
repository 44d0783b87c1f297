-- The resolution notification section as it is read: the records that bytes stand for, total functions of the bytes, and the verdict on the bytes, request 101's rows in reading order.
-- Assumes nothing.
use Rattle.std.specs.Prelude.{ℕ, ◌+◌, ◌-◌, ◌/◌, ◌%◌, List, [], ◌∷◌, map, ltb, length, get_or}
use Rattle.wire.specs.Lists.{part}
use Rattle.length_field.specs.Lengths.{length_at, beside_at, block_at, block_end, long_row, block_verdict, block_need}
use Rattle.wire.specs.Refusals.{common_too_long, provider_cut, provider_too_long, provider_name_cut, provider_descriptors_cut, authority_cut}
use Rattle.wire.specs.Runs.{places_to, each_row}
use Rattle.wire.specs.Verdict.{counted_row, refuse, ◌▷◌, Verdict}
use Rattle.section_header.specs.Reading.{header_at}
use Rattle.frame.specs.Reading.{payload_end, plain_demands, reading_by, checked_by}
use Rattle.frame.specs.declared.Demands.{Demands}
use Rattle.rnt.specs.declared.RntHeader.{RntHeader}
use Rattle.rnt.specs.Syntax.{type_place, common_place, rnt, widest_policy, Named, Authority, Provider, Section}

-- ---- the records

abbrev pub rnt_header_at : List ℕ → RntHeader
rnt_header_at xs = record { section = header_at xs; context_id_type = get_or xs type_place 0 }

-- the name and descriptors that stand at p, the place behind the name and that behind both
abbrev pub name_end : List ℕ → ℕ → ℕ
name_end xs p = p + 1 + get_or xs p 0

abbrev pub named_end : List ℕ → ℕ → ℕ
named_end xs p = block_end xs (name_end xs p)

abbrev pub named_at : List ℕ → ℕ → Named
named_at xs p = record { name = part xs (p + 1) (get_or xs p 0); descriptors = block_at xs (name_end xs p) }

-- of the four bits before an authority's descriptors_length the last two are its policy
abbrev pub policy_of : ℕ → ℕ
policy_of four = four % (widest_policy + 1)

abbrev pub reserved_of : ℕ → ℕ
reserved_of four = four / (widest_policy + 1)

abbrev pub authority_of : Named → Authority
authority_of n =
    record {
      name = n.name;
      reserved = reserved_of n.descriptors.beside;
      policy = policy_of n.descriptors.beside;
      descriptors = n.descriptors.body;
    }

abbrev pub authority_at : List ℕ → ℕ → Authority
authority_at xs p = authority_of (named_at xs p)

-- of the provider at p: where its info begins, and where its authorities stand, the last of which ends where it does
abbrev pub info_place : ℕ → ℕ
info_place p = p + 2

abbrev pub authority_places : List ℕ → ℕ → List ℕ
authority_places xs p = places_to (named_end xs) (block_end xs p) (named_end xs (info_place p))

unfoldable pub provider_at : List ℕ → ℕ → Provider
provider_at xs p =
    record { reserved = beside_at xs p; named = named_at xs (info_place p); authorities = map (authority_at xs) (authority_places xs p) }

-- the places of the providers, which stand behind the common descriptors and end with the payload
abbrev pub provider_places : List ℕ → List ℕ
provider_places xs = places_to (block_end xs) (payload_end xs) (block_end xs common_place)

unfoldable pub section_at : List ℕ → Section
section_at xs =
    record { header = rnt_header_at xs; common = block_at xs common_place; providers = map (provider_at xs) (provider_places xs) }

-- by number: how many providers there are and where one stands, and the same of the authorities of the provider at p
abbrev pub provider_count : List ℕ → ℕ
provider_count xs = length (provider_places xs)

abbrev pub provider_place : List ℕ → ℕ → ℕ
provider_place xs k = get_or (provider_places xs) k 0

abbrev pub authority_count : List ℕ → ℕ → ℕ
authority_count xs p = length (authority_places xs p)

abbrev pub authority_place : List ℕ → ℕ → ℕ → ℕ
authority_place xs p j = get_or (authority_places xs p) j 0

-- ---- the verdict

-- a name and descriptors at p that end at e at the latest: the name, or its length, is cut off (number cut; need, have), or
-- the descriptors are, or their length (number short; need, have)
unfoldable pub named_verdict : ℕ → ℕ → List ℕ → ℕ → ℕ → Verdict
named_verdict cut short xs e p =
    refuse (ltb e (p + 1)) cut (p + 1) e
    ▷ refuse (ltb e (name_end xs p)) cut (name_end xs p) e
    ▷ block_need short short xs e (name_end xs p)

-- an authority at p of a provider that ends at e
abbrev pub authority_verdict : List ℕ → ℕ → ℕ → Verdict
authority_verdict = named_verdict authority_cut authority_cut

-- the provider at p of a payload that ends at e: its length field and its length, its name and descriptors within that length
unfoldable pub provider_head : List ℕ → ℕ → ℕ → Verdict
provider_head xs e p =
    block_verdict provider_cut provider_too_long xs e p
    ▷ named_verdict provider_name_cut provider_descriptors_cut xs (block_end xs p) (info_place p)

-- then its authorities, within that length too
unfoldable pub provider_verdict : List ℕ → ℕ → ℕ → Verdict
provider_verdict xs e p = provider_head xs e p ▷ each_row (authority_verdict xs (block_end xs p)) (authority_places xs p)

-- the common descriptors against the payload; their length field stands within every section
unfoldable pub common_row : List ℕ → Verdict
common_row xs = long_row common_too_long (length_at xs common_place) (payload_end xs - (common_place + 2))

-- the common descriptors, then the providers
unfoldable pub payload_verdict : List ℕ → Verdict
payload_verdict xs = common_row xs ▷ each_row (provider_verdict xs (payload_end xs)) (provider_places xs)

-- the reading of a section by what is demanded of it, the plain and the checked one
abbrev pub reading : Demands → List ℕ → Verdict
reading = reading_by rnt payload_verdict

abbrev pub plain : List ℕ → Verdict
plain = reading plain_demands

abbrev pub checked : List ℕ → Verdict
checked = checked_by rnt payload_verdict

-- provider k: the plain reading, then 21 with the number and the count; its authority j: then 21 again
unfoldable pub provider_rows : List ℕ → ℕ → Verdict
provider_rows xs k = plain xs ▷ counted_row (provider_count xs) k

unfoldable pub authority_rows : List ℕ → ℕ → ℕ → Verdict
authority_rows xs k j = provider_rows xs k ▷ counted_row (authority_count xs (provider_place xs k)) j
