-- The fields of a body, put together of what the code read at its places.
-- Assumes nothing.
use mathlib.Core.Path.{◌≡◌, sym, ap, ◌∙◌}
use Prim.Native.Nat.{ℕ, ◌/◌}
use mathlib.Core.List.{List}
use lib.ListN.{get_or}
use Rattle.field.specs.Fields.{low, number_items, number_items_reserved}
use Rattle.link.specs.Records.{locator_info, fields_at}
use Rattle.link.specs.declared.LinkFields.{LinkFields}
use Rattle.fields_reader.specs.Stages.{Laid, head_at, tail_at, uri_to}
use Rattle.fields_reader.specs.declared.record.Head.{Head}
use Rattle.fields_reader.specs.declared.record.Tail.{Tail}
use Rattle.fields_reader.proofs.Stages.{uri-info}
use Rattle.link.specs.Options.{LinkLocator, MediaUri}

abbrev fields_of : ℕ → Head → Tail → MediaUri → LinkLocator → ℕ → ℕ → LinkFields
fields_of r head end uri locator beside n =
    record {
      reserved_link_info_length = r;
      link_type = head.link_type;
      reserved_link_type = head.reserved_link_type;
      how_related = head.how_related;
      term_id = head.term_id;
      group_id = head.group_id;
      precedence = head.precedence;
      media_uri = uri;
      dvb_binary_locator = locator;
      reserved_number_items = beside;
      number_items = n;
      default_icon_flag = end.default_icon_flag;
      icon_id = end.icon_id;
      descriptors = end.descriptors;
    }

pub fields_made : (base r : ℕ) (xs : List ℕ) (u p t : ℕ) → Laid xs u p t
    → (head : Head) → head ≡ head_at xs → (end : Tail) → end ≡ tail_at base xs t → (uri : MediaUri) → uri ≡ uri_to base u
    → (locator : LinkLocator) → locator ≡ locator_info xs
    → (beside : ℕ) → beside ≡ low number_items_reserved (get_or xs p 0 / 64) → (n : ℕ) → n ≡ low number_items (get_or xs p 0)
    → fields_of r head end uri locator beside n ≡ fields_at base r xs
unfolding fields_at tail_at
fields_made base r xs u p t l head h end e uri i locator f beside b n c = rw (i, f, e, h, b, c, l.uri, l.count, l.tail, uri-info)
