-- What private stages of the code answer. No public contract cites these: what a body means is said in link/specs.
-- Assumes nothing.
use Rattle.std.specs.Prelude.{ℕ, ◌+◌, ◌-◌, ◌/◌, ◌^◌, ◌≤◌, ◌<◌, ◌≡◌, List, eqb, ltb, length, None, Some}
use Rattle.field.specs.Fields.{low, icon_id}
use Rattle.wire.specs.Choice.{pick}
use Rattle.length_field.specs.Lengths.{length_at, beside_at}
use Rattle.link.specs.Syntax.{head_length}
use Rattle.link.specs.Reading.{type_at, type_reserved_at, how_related_at, term_id_at, group_id_at, precedence_at, uri_start, uri_end_place, count_place, tail_place}
use Rattle.fields_reader.specs.declared.record.Head.{Head}
use Rattle.fields_reader.specs.declared.record.Tail.{Tail}
use Rattle.link.specs.Options.{MediaUri}

-- the fields of the first four bytes
abbrev pub head_at : List ℕ → Head
head_at xs =
    record {
      link_type = type_at xs;
      reserved_link_type = type_reserved_at xs;
      how_related = how_related_at xs;
      term_id = term_id_at xs;
      group_id = group_id_at xs;
      precedence = precedence_at xs;
    }

-- the places of a body that is accepted, which a 16-bit number holds
pub record Laid (xs : List ℕ) (u p t : ℕ) : Type 0 where
  pub uri : u ≡ uri_end_place xs
  pub count : p ≡ count_place xs
  pub tail : t ≡ tail_place xs
  pub headed : head_length ≤ length xs
  pub reaches : u ≤ length xs
  pub counts : p < length xs
  pub ends : t + 2 ≤ length xs
  pub short : u < 2 ^ 16
  pub first : p < 2 ^ 16
  pub near : t < 2 ^ 16

-- what a body ends with, at p
unfoldable pub tail_at : ℕ → List ℕ → ℕ → Tail
tail_at base xs p =
    record {
      default_icon_flag = eqb (beside_at xs p / 8) 1;
      icon_id = low icon_id (beside_at xs p);
      descriptors = record { start = base + (p + 2); length = length_at xs p };
    }

-- a URI that ends at e: there is none if that is before the place where one starts
unfoldable pub uri_to : ℕ → ℕ → MediaUri
uri_to base e = pick (ltb e uri_start) None (Some (record { start = base + uri_start; length = e - uri_start }))
