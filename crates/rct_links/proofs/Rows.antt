-- The sections to try (docs/VECTORS.md): twelve rows of one statement, about the definitions that the contracts cite. The four bytes of a CRC are any.
-- Assumes nothing.
use Prim.Native.Nat.{ℕ}
use mathlib.Core.Path.{◌≡◌, refl, ap, ◌∙◌}
use mathlib.Core.Bool.{true, false}
use native.Mathlib.Omega.{arith}
use mathlib.Core.List.{List, [], ◌∷◌}
use lib.ListN.{length, replicate, take}
use Rattle.length_field.specs.Lengths.{block_rows, last_verdict}
use Rattle.wire.specs.Verdict.{refuse, ◌▷◌, Fine}
use Rattle.locator.specs.Reading.{cut, read_locator, got_locator}
use Rattle.locator.proofs.Rows.{bytes_l, record_l, row-L, row-L-cut}
use Rattle.link.specs.Reading.{uri_verdict, locator_rows, count_verdict, item_verdict, items_verdict, front_verdict, rest_verdict, body_verdict}
use Rattle.link.specs.Records.{item_infos, fields_at, info_at}
use Rattle.link.specs.Answers.{link_answer}
use Rattle.link.specs.declared.LinkInfo.{LinkInfo}
use Rattle.frame.specs.Reading.{plain_demands, opened, reading_by}
use Rattle.frame.proofs.Opening.{opened-short}
use Rattle.frame.proofs.Readings.{reading-closed}
use Rattle.rct.specs.Syntax.{rct}
use Rattle.rct.specs.Reading.{entry_verdict, payload_verdict, plain, number_row}
use Rattle.rct.specs.declared.RctHeader.{RctHeader}
use Rattle.link.specs.declared.LinkItem.{LinkItem}
use Rattle.rct_reader.specs.Sections.{section_read}
use Rattle.rct_reader.specs.declared.RctSection.{RctSection}
use Rattle.rct_bodies.specs.Bodies.{link_rows}
use Rattle.rct_links.specs.Links.{numbered_link}
use Rattle.std.specs.Prelude.{None, Ok, Err, Result}
use Rattle.wire.specs.declared.verdict.Refusal.{Refusal}

-- the answer of the plain reading
abbrev read : List ℕ → Result RctSection Refusal
read xs = section_read (plain xs) xs

abbrev refusal : ℕ → ℕ → ℕ → Result RctSection Refusal
refusal n f g = Err (record { number = n; first = f; second = g })

-- an unused item
abbrev zero_item : LinkItem
zero_item = record { language_code = record { first = 0; second = 0; third = 0 }; promotional_text = record { start = 0; length = 0 } }

-- the header of S0 and of S1: section 1, version 0, current, number 0 of 0, year 2000
abbrev header_s : RctHeader
header_s =
    record {
      section =
          record {
            section_syntax_indicator = true;
            private_indicator = true;
            reserved_b1 = 3;
            table_id_extension = 1;
            reserved_b5 = 3;
            version_number = 0;
            current_next_indicator = true;
            section_number = 0;
            last_section_number = 0;
          };
      year_offset = 2000;
    }

-- a section of so many bytes and links, its empty loop behind byte p
abbrev section_s : ℕ → ℕ → ℕ → Result RctSection Refusal
section_s total count p =
    Ok
    (record {
      total = total;
      header = header_s;
      number_of_links = count;
      reserved_descriptor_loop_length = 15;
      descriptors = record { start = p; length = 0 };
    })

-- link 0 of S1: type 3, how_related 3, term 5, group 1, precedence 2
abbrev link_s1 : LinkInfo
link_s1 =
    record {
      fields =
          record {
            reserved_link_info_length = 15;
            link_type = 3;
            reserved_link_type = 3;
            how_related = 3;
            term_id = 5;
            group_id = 1;
            precedence = 2;
            media_uri = None;
            dvb_binary_locator = None;
            reserved_number_items = 3;
            number_items = 0;
            default_icon_flag = false;
            icon_id = 0;
            descriptors = record { start = 20; length = 0 };
          };
      items = replicate 63 zero_item;
    }

short : (xs : List ℕ) → length xs ≡ 16 → read xs ≡ refusal 1 17 16
unfolding section_read
short xs e = ap (λ v. section_read v xs) (reading-closed rct payload_verdict plain_demands xs _ (opened-short rct plain_demands xs (omega arith))) ∙ ap (λ n. refusal 1 17 n) e

module _ (a b c d : ℕ) where
  -- S0, by its first byte and the low byte of its length
  abbrev s0 : ℕ → ℕ → List ℕ
  s0 id len = id ∷ 0xF0 ∷ len ∷ 0x00 ∷ 0x01 ∷ 0xC1 ∷ 0x00 ∷ 0x00 ∷ 0x07 ∷ 0xD0 ∷ 0x00 ∷ 0xF0 ∷ 0x00 ∷ a ∷ b ∷ c ∷ d ∷ []

  -- S1, by its number of links, its link's length and its loop's
  abbrev s1 : ℕ → ℕ → ℕ → List ℕ
  s1 links body loop =
      0x76 ∷ 0xF0 ∷ 0x17 ∷ 0x00 ∷ 0x01 ∷ 0xC1 ∷ 0x00 ∷ 0x00 ∷ 0x07 ∷ 0xD0 ∷ links
      ∷ 0xF0 ∷ body ∷ 0x3C ∷ 0x30 ∷ 0x05 ∷ 0x12 ∷ 0xC0 ∷ 0x00 ∷ 0x00
      ∷ 0xF0 ∷ loop ∷ a ∷ b ∷ c ∷ d ∷ []

  pub record Rows : Type 0 where
    pub empty : read [] ≡ refusal 1 17 0
    pub sixteen : (xs : List ℕ) → length xs ≡ 16 → read xs ≡ refusal 1 17 16
    pub s0-accepted : read (s0 0x76 0x0E) ≡ section_s 17 0 13
    pub s0-other-table : read (s0 0x79 0x0E) ≡ refusal 2 118 121
    pub s0-shorter : read (s0 0x76 0x0D) ≡ refusal 3 13 17
    pub s1-accepted : (read (s1 1 7 0) ≡ section_s 26 1 22) × (numbered_link (s1 1 7 0) 0 ≡ Ok link_s1)
    pub s1-link-6 : read (s1 1 6 0) ≡ refusal 14 7 6
    pub s1-link-8 : read (s1 1 8 0) ≡ refusal 16 1 0
    pub s1-two-links : read (s1 2 7 0) ≡ refusal 6 4 0
    pub s1-loop-1 : read (s1 1 7 1) ≡ refusal 18 1 0
    pub l-read : read_locator bytes_l ≡ got_locator record_l 8
    pub l-cut : read_locator (take 7 bytes_l) ≡ cut 8 7

  pub rows : Rows
  unfolding section_read reading_by payload_verdict entry_verdict opened link_rows number_row numbered_link link_answer info_at fields_at item_infos last_verdict block_rows body_verdict front_verdict uri_verdict locator_rows count_verdict rest_verdict item_verdict items_verdict refuse ◌▷◌
  rows =
      record {
        empty = refl;
        sixteen = short;
        s0-accepted = refl;
        s0-other-table = refl;
        s0-shorter = refl;
        s1-accepted = (refl, refl);
        s1-link-6 = refl;
        s1-link-8 = refl;
        s1-two-links = refl;
        s1-loop-1 = refl;
        l-read = row-L;
        l-cut = row-L-cut;
      }
