-- Each number of the fixed list is received: there is a call that answers it, and what it is given stands here. So a number that nobody can
-- receive cannot be put on the list.
-- Assumes nothing.
use Prim.Native.Nat.{ℕ, zero, suc, ◌+◌}
use mathlib.Core.Path.{◌≡◌, refl, ap}
use mathlib.Core.Bool.{true, false, xor}
use mathlib.Core.List.{List, [], ◌∷◌, ◌++◌}
use mathlib.Core.Option.{none}
use native.Mathlib.Omega.{arith}
use lib.ListN.{length, drop, replicate}
use Rattle.wire.specs.Lists.{Bytes}
use Rattle.length_field.specs.Lengths.{length_bytes, block_bytes, block_rows, last_verdict}
use Rattle.wire.specs.Verdict.{bad, refuse, ◌▷◌, verdict_of}
use Rattle.wire.proofs.Lists.{bytes-append}
use Rattle.field.specs.Fields.{check_field}
use Rattle.crc.specs.Crc.{clock, crc_of}
use Rattle.descriptors.specs.Reading.{told, descriptors_of, cut_verdict, counted}
use Rattle.locator.specs.Checks as locator-checks
use Rattle.locator.specs.Reading.{read_locator, locator_verdict}
use Rattle.locator.specs.declared.DvbLocatorIdentifier.TheVariants as identifier
use Rattle.locator.specs.declared.DvbLocatorService.TheVariants as service
use Rattle.link.specs.Reading.{uri_verdict, locator_rows, count_verdict, item_verdict, items_verdict, front_verdict, rest_verdict, body_verdict}
use Rattle.link.specs.Records.{no_item}
use Rattle.link.specs.Answers.{link_answer}
use Rattle.link.specs.Syntax.{Link, field_bytes, uri_bytes, locator_part, items_bytes, link_body}
use Rattle.link.specs.declared.LinkInfo.{LinkInfo}
use Rattle.link.specs.declared.Range.{Range}
use Rattle.link_draft.specs.Checks as draft
use Rattle.section_header.specs.Checks.{check_header}
use Rattle.section_header.specs.Syntax.{header_bytes}
use Rattle.frame.specs.Reading.{checked_demands, opened, computed_at, crc_row, reading_by, checked_by}
use Rattle.rct.specs.Reading as rct
use Rattle.rct.specs.Syntax.{Section, new_rct_header, EntryFits, LinksFit, Fits, payload, section_length, head_bytes, section_bytes, sealed}
use Rattle.rct.specs.declared.RctHeader.{RctHeader}
use Rattle.rct.proofs.Rows as rct-rows
use Rattle.rct.proofs.Checked.{sealed-holds, holds-known, sealed-bytes}
use Rattle.rct_reader.specs.Sections as rct-section
use Rattle.rct_bodies.specs.Bodies.{link_rows}
use Rattle.rct_links.specs.Links.{numbered_link}
use Rattle.rct_edit.specs.Edit.{room_rows, make_verdict, made, done}
use Rattle.rct_edit.specs.Making.{check_loop, check_making}
use Rattle.rct_edit.specs.Calls.{making, appending}
use Rattle.rct_edit.proofs.Order.{appending-count}
use Rattle.rnt.specs.Reading as rnt
use Rattle.rnt.proofs.Rows as rnt-rows
use Rattle.rnt_reader.specs.Sections as rnt-section
use Rattle.refusals.specs.FixedList.{fixed_list}
use Rattle.refusals.proofs.Numbers.{from}
use Rattle.link.specs.Options.{LinkLocator}
use Rattle.std.specs.Prelude.{Err, None, Some}

-- a call that answers n, with the figures f and g
pub data Received (n : ℕ) : Type 0 where
  read-section : (xs : List ℕ) (f g : ℕ) → rct-section.section_read (rct.plain xs) xs ≡ Err (record { number = n; first = f; second = g }) → Received n
  check-section : (xs : List ℕ) (f g : ℕ) → rct-section.section_read (rct.checked xs) xs ≡ Err (record { number = n; first = f; second = g }) → Received n
  read-link : (xs : List ℕ) (k f g : ℕ) → verdict_of (numbered_link xs k) ≡ bad n f g → Received n
  check-link : (t : List ℕ) (i : LinkInfo) (f g : ℕ) → (draft.link_checked t i).verdict ≡ bad n f g → Received n
  make : (xs : List ℕ) (h : RctHeader) (beside : ℕ) (t : List ℕ) (d : Range) (f g : ℕ) → (making xs h beside t d).verdict ≡ bad n f g → Received n
  append : (xs t : List ℕ) (i : LinkInfo) (f g : ℕ) → (appending xs t i).verdict ≡ bad n f g → Received n
  count-descriptors : (xs : List ℕ) (start f g : ℕ)
      → counted (cut_verdict start (drop start xs)) (length (descriptors_of (drop start xs))) ≡ Err (record { number = n; first = f; second = g }) → Received n
  read-rnt : (xs : List ℕ) (f g : ℕ) → rnt-section.section_read (rnt.plain xs) xs ≡ Err (record { number = n; first = f; second = g }) → Received n

infixr 50 ◌&◌
pub data AllReceived : List ℕ → Type 0 where
  all : AllReceived []
  ◌&◌ : {n : ℕ} {ns : List ℕ} → Received n → AllReceived ns → AllReceived (n ∷ ns)

-- ---- rows of a reading that stand already, as what its call answers

module _ {n f g : ℕ} (xs : List ℕ) where
  checked-row : rct.checked xs ≡ bad n f g → Received n
  unfolding rct-section.section_read
  checked-row e = check-section xs f g (ap (λ v. rct-section.section_read v xs) e)

  rnt-row : rnt.plain xs ≡ bad n f g → Received n
  unfolding rnt-section.section_read
  rnt-row e = read-rnt xs f g (ap (λ v. rnt-section.section_read v xs) e)

above-limit : Received 28
above-limit = checked-row _ (rct-rows.rows).above_filled

unindicated : Received 38
unindicated = checked-row _ (rct-rows.rows).unindicated

rnt-received : AllReceived (from 40 7)
rnt-received =
    rnt-row _ (rnt-rows.rows).other
    & rnt-row _ (rnt-rows.rows).common
    & rnt-row _ (rnt-rows.rows).provider_cut
    & rnt-row _ (rnt-rows.rows).provider_long
    & rnt-row _ (rnt-rows.rows).no_name
    & rnt-row _ (rnt-rows.rows).no_descriptors
    & rnt-row _ (rnt-rows.rows).authority_name_cut
    & all

-- ---- what the other calls are given

-- a related content section of so many links, with the bytes behind their number, and zeros for the CRC
abbrev rct_of : ℕ → List ℕ → List ℕ
rct_of n xs = 0x76 ∷ 0xF0 ∷ (length xs + 12) ∷ 0x00 ∷ 0x01 ∷ 0xC1 ∷ 0x00 ∷ 0x00 ∷ 0x07 ∷ 0xD0 ∷ n ∷ (xs ++ replicate 4 0)

-- one link of that body, and an empty loop
abbrev with_body : List ℕ → List ℕ
with_body xs = rct_of 1 (0xF0 ∷ length xs ∷ (xs ++ 0xF0 ∷ 0x00 ∷ []))

-- the entry of a link of type 3 with no items and no descriptors
abbrev entry : List ℕ
entry = 0xF0 ∷ 0x07 ∷ 0x30 ∷ 0x00 ∷ 0x00 ∷ 0x00 ∷ 0x00 ∷ 0x00 ∷ 0x00 ∷ []

-- a header of a new section, by its version
abbrev header_of : ℕ → RctHeader
header_of version = new_rct_header true 1 version true 0 0 2000

-- a link's record without a URI, by its type, how_related, its locator and where its descriptors start, of which there are none
abbrev record_of : ℕ → ℕ → LinkLocator → ℕ → LinkInfo
record_of type related place start =
    record {
      fields =
          record {
            reserved_link_info_length = 15;
            link_type = type;
            reserved_link_type = 3;
            how_related = related;
            term_id = 0;
            group_id = 0;
            precedence = 0;
            media_uri = None;
            dvb_binary_locator = place;
            reserved_number_items = 3;
            number_items = 0;
            default_icon_flag = false;
            icon_id = 0;
            descriptors = record { start = start; length = 0 };
          };
      items = replicate 63 no_item;
    }

-- a reliable time, without the windows that it takes
abbrev windowless : LinkLocator
windowless =
    Some
    (record {
      scheduled_time_reliability = true;
      reserved = 1;
      start_date = 0;
      service = service.Triplet 0;
      start_time = 0;
      duration = 0;
      identifier = identifier.None;
      windows = None;
    })

-- ---- as many links as there can be

abbrev small : Link
small =
    record {
      length_reserved = 15;
      link_type = 3;
      type_reserved = 3;
      how_related = 0;
      term_id = 0;
      group_id = 0;
      precedence = 0;
      uri = none;
      locator = none;
      items_reserved = 3;
      items = [];
      default_icon = false;
      icon_id = 0;
      descriptors = [];
    }

small-fits : EntryFits small
unfolding link_body field_bytes uri_bytes locator_part items_bytes block_bytes length_bytes
small-fits =
    record {
      link =
          record {
            length_reserved = omega arith;
            link_type = omega arith;
            type_reserved = omega arith;
            how_related = omega arith;
            term_id = omega arith;
            group_id = omega arith;
            precedence = omega arith;
            uri_here = refl;
            uri = tt;
            locator_here = refl;
            locator = tt;
            items_reserved = omega arith;
            count = omega arith;
            items = tt;
            icon_id = omega arith;
            short = omega arith;
            descriptors = tt;
          };
      short = omega arith;
    }

all_fit : (n : ℕ) → LinksFit (replicate n small)
all_fit zero = tt
all_fit (suc n) = (small-fits, all_fit n)

abbrev full : Section
full = record { header = header_of 0; links = replicate 255 small; loop = record { beside = 15; body = [] } }

full-fits : Fits checked_demands full
unfolding section_length payload link_body field_bytes uri_bytes locator_part items_bytes block_bytes length_bytes
full-fits =
    record {
      header =
          record {
            section = record { reserved1 = omega arith; extension = omega arith; reserved5 = omega arith; version = omega arith; number = omega arith; last = omega arith };
            year = omega arith;
          };
      count = omega arith;
      links = all_fit 255;
      loop = record { narrow = omega arith; short = omega arith; bytes = tt };
      indicated = λ d. refl;
      fits = omega arith;
    }

abbrev full_bytes : List ℕ
full_bytes = sealed full ++ []

full-count : rct.count_at full_bytes ≡ 255
unfolding sealed section_bytes head_bytes header_bytes length_bytes
full-count = refl

full-bytes : Bytes full_bytes
full-bytes = bytes-append (sealed full) [] (sealed-bytes checked_demands full (omega arith) full-fits) tt

no_more : (appending full_bytes [] (record_of 3 0 None 0)).verdict ≡ bad 30 255 0
no_more =
    let k = holds-known full full_bytes (sealed-holds full [] full-fits) in
    (appending-count full_bytes [] (record_of 3 0 None 0) full-bytes 255 0).1 (record { section = k.passed; full = full-count; figures = (refl, refl) })

-- ---- by number

pub all-received : AllReceived fixed_list
unfolding rct-section.section_read reading_by checked_by rct.payload_verdict rct.entry_verdict rct.number_row opened computed_at crc_row crc_of clock block_rows last_verdict body_verdict front_verdict uri_verdict locator_rows count_verdict rest_verdict item_verdict items_verdict read_locator locator_verdict link_rows numbered_link link_answer refuse ◌▷◌ xor check_field draft.link_checked draft.check_link draft.check_presence draft.check_fields draft.check_head draft.check_uri draft.check_locator_fields draft.check_count draft.check_end draft.check_locator_rule draft.check_ranges draft.check_uri_range draft.check_range draft.first_in locator-checks.check_fields locator-checks.check_windows making made make_verdict done check_making check_header check_loop room_rows section_length payload block_bytes length_bytes counted cut_verdict descriptors_of told
all-received =
    read-section [] 17 0 refl
    & read-section (replicate 17 0x00) 118 0 refl
    & read-section (0x76 ∷ replicate 16 0x00) 0 17 refl
    & read-section (rct_of 2 entry) 22 20 refl
    & read-section (rct_of 1 (0xF0 ∷ 0x01 ∷ [])) 1 0 refl
    & read-section (with_body []) 4 0 refl
    & read-section (with_body (0x00 ∷ 0x00 ∷ 0x00 ∷ 0x00 ∷ [])) 5 4 refl
    & read-section (with_body (0x00 ∷ 0x00 ∷ 0x00 ∷ 0x00 ∷ 0x01 ∷ [])) 6 5 refl
    & read-section (with_body (0x10 ∷ 0x00 ∷ 0x00 ∷ 0x00 ∷ [])) 5 4 refl
    & read-section (with_body (0x10 ∷ 0x00 ∷ 0x00 ∷ 0x00 ∷ 0x00 ∷ [])) 2 1 refl
    & read-section (with_body (0x30 ∷ 0x00 ∷ 0x00 ∷ 0x00 ∷ [])) 5 4 refl
    & read-section (with_body (0x30 ∷ 0x00 ∷ 0x00 ∷ 0x00 ∷ 0x01 ∷ [])) 9 5 refl
    & read-section (with_body (0x30 ∷ 0x00 ∷ 0x00 ∷ 0x00 ∷ 0x01 ∷ 0x00 ∷ 0x00 ∷ 0x00 ∷ 0x01 ∷ [])) 10 9 refl
    & read-section (with_body (0x30 ∷ 0x00 ∷ 0x00 ∷ 0x00 ∷ 0x00 ∷ [])) 7 5 refl
    & read-section (with_body (0x30 ∷ 0x00 ∷ 0x00 ∷ 0x00 ∷ 0x00 ∷ 0x00 ∷ 0x01 ∷ [])) 1 0 refl
    & read-section (with_body (0x30 ∷ 0x00 ∷ 0x00 ∷ 0x00 ∷ 0x00 ∷ 0x00 ∷ 0x00 ∷ 0x00 ∷ [])) 1 0 refl
    & read-section (rct_of 1 entry) 22 20 refl
    & read-section (rct_of 0 (0xF0 ∷ 0x01 ∷ [])) 1 0 refl
    & read-section (rct_of 0 (0xF0 ∷ 0x00 ∷ 0x00 ∷ [])) 1 0 refl
    & check-section (rct_of 0 (0xF0 ∷ 0x00 ∷ [])) 0 0x6E3E21D2 refl
    & read-link (rct_of 0 (0xF0 ∷ 0x00 ∷ [])) 0 0 0 refl
    & check-link [] (record_of 3 64 None 0) 1 64 refl
    & check-link [] (record_of 1 0 None 0) 1 0 refl
    & check-link [] (record_of 1 0 windowless 0) 0 0 refl
    & check-link [] (record_of 3 0 None 1) 1 0 refl
    & above-limit
    & make [] (header_of 0) 15 [] (record { start = 0; length = 0 }) 17 0 refl
    & append full_bytes [] (record_of 3 0 None 0) 255 0 no_more
    & unindicated
    & count-descriptors (0x4D ∷ []) 0 0 1 refl
    & rnt-received
