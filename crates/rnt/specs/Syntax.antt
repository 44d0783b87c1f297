-- The resolution notification section as it is written (ETSI TS 102 323, 5.2.2, Table 1): records, the bytes that they are written as, and which records have such bytes. Nothing here reads.
-- Assumes nothing.
use Rattle.std.specs.Prelude.{ℕ, ◌+◌, ◌-◌, ◌*◌, ◌≤◌, ◌<◌, List, [], ◌∷◌, ◌++◌, length}
use Rattle.wire.specs.Lists.{Bytes}
use Rattle.length_field.specs.Lengths.{longest, widest_beside, Block, BlockFits, block_bytes}
use Rattle.wire.specs.Refusals.{not_rnt}
use Rattle.wire.specs.Runs.{in_order, AllFit}
use Rattle.section_header.specs.Syntax.{front_length, header_bytes, HeaderFits}
use Rattle.frame.specs.Syntax.{uncounted, crc_length, with_crc, Indicated}
use Rattle.frame.specs.declared.Demands.{Demands}
use Rattle.frame.specs.declared.Table.{Table}
use Rattle.rnt.specs.declared.RntHeader.{RntHeader}

-- ---- the numbers that the table states

abbrev pub table_id : ℕ
table_id = 0x79

-- the place of context_id_type, and that of the common descriptors' length, the bytes before it
abbrev pub type_place : ℕ
type_place = front_length

abbrev pub common_place : ℕ
common_place = type_place + 1

-- the smallest section_length
abbrev pub shortest : ℕ
shortest = 12

-- the table; a section of another is refused by its table_id
abbrev pub rnt : Table
rnt = record { id = table_id; shortest = shortest; other = not_rnt }

-- the widest name length, of 8 bits; CRID_authority_policy and the reserved bits before it have 2 bits each
abbrev pub longest_name : ℕ
longest_name = 255

abbrev pub widest_policy : ℕ
widest_policy = 3

abbrev pub widest_bits : ℕ
widest_bits = 3

-- ---- the records

-- a name, then descriptors: so begins a provider's info, and such is an authority
pub record Named : Type 0 where
  pub name : List ℕ
  pub descriptors : Block

pub record Authority : Type 0 where
  pub name : List ℕ
  pub reserved : ℕ
  pub policy : ℕ
  pub descriptors : List ℕ

pub record Provider : Type 0 where
  pub reserved : ℕ
  pub named : Named
  pub authorities : List Authority

pub record Section : Type 0 where
  pub header : RntHeader
  pub common : Block
  pub providers : List Provider

-- ---- the bytes

-- name_length 8, the name, four bits, descriptors_length 12, the descriptors
unfoldable pub named_bytes : Named → List ℕ
named_bytes n = length n.name ∷ n.name ++ block_bytes n.descriptors

-- an authority's four bits: reserved 2, CRID_authority_policy 2
abbrev pub authority_named : Authority → Named
authority_named a =
    record { name = a.name; descriptors = record { beside = a.reserved * (widest_policy + 1) + a.policy; body = a.descriptors } }

abbrev pub authority_bytes : Authority → List ℕ
authority_bytes a = named_bytes (authority_named a)

-- a provider's info: its name and descriptors, then authority after authority
unfoldable pub info_bytes : Provider → List ℕ
info_bytes p = named_bytes p.named ++ in_order authority_bytes p.authorities

-- the info behind four bits and its length
abbrev pub entry_of : Provider → Block
entry_of p = record { beside = p.reserved; body = info_bytes p }

abbrev pub provider_bytes : Provider → List ℕ
provider_bytes p = block_bytes (entry_of p)

-- table_id 8, bytes 1 to 7, context_id_type 8
unfoldable pub head_bytes : RntHeader → ℕ → List ℕ
head_bytes h len = table_id ∷ header_bytes h.section len ++ h.context_id_type ∷ []

-- what stands between them and the CRC: the common descriptors behind four bits and their length, then provider after provider
unfoldable pub payload : Section → List ℕ
payload s = block_bytes s.common ++ in_order provider_bytes s.providers

-- section_length counts from behind itself to the end of the CRC
unfoldable pub section_length : Section → ℕ
section_length s = (common_place - uncounted) + length (payload s) + crc_length

-- the section without its CRC, and with it
unfoldable pub section_bytes : Section → List ℕ
section_bytes s = head_bytes s.header (section_length s) ++ payload s

unfoldable pub sealed : Section → List ℕ
sealed s = with_crc (section_bytes s)

-- ---- which records have bytes: each number is within its field, each length within its length field

pub record RntHeaderFits (h : RntHeader) : Type 0 where
  pub section : HeaderFits h.section
  pub type : h.context_id_type < 256

pub record NamedFits (n : Named) : Type 0 where
  pub short : length n.name ≤ longest_name
  pub bytes : Bytes n.name
  pub descriptors : BlockFits n.descriptors

pub record AuthorityFits (a : Authority) : Type 0 where
  pub reserved : a.reserved ≤ widest_bits
  pub policy : a.policy ≤ widest_policy
  pub short : length a.name ≤ longest_name
  pub bytes : Bytes a.name
  pub descriptors_short : length a.descriptors ≤ longest
  pub descriptors_bytes : Bytes a.descriptors

pub record ProviderFits (p : Provider) : Type 0 where
  pub reserved : p.reserved ≤ widest_beside
  pub named : NamedFits p.named
  pub authorities : AllFit AuthorityFits p.authorities
  pub short : length (info_bytes p) ≤ longest

pub record Fits (d : Demands) (s : Section) : Type 0 where
  pub header : RntHeaderFits s.header
  pub common : BlockFits s.common
  pub providers : AllFit ProviderFits s.providers
  pub indicated : Indicated d s.header.section
  pub fits : section_length s ≤ d.most
