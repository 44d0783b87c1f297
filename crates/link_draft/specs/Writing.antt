-- What writing a link's body into a buffer from a place on leaves, whatever the record: its parts one behind the other, each
-- where there is room for all of it. Nothing is checked here: of a number that is too wide for its field the lowest bits
-- are written, and of a range that goes past the text nothing.
-- Assumes nothing.
use Rattle.std.specs.Prelude.{ℕ, ◌+◌, ◌*◌, List, [], ◌∷◌, ◌++◌, length, None, Some}
use Rattle.wire.specs.Choice.{bit}
use Rattle.length_field.specs.Lengths.{length_bytes}
use Rattle.spans.specs.Spans.{span, span_of, span_in}
use Rattle.byte_stores.specs.Stores.{put_at}
use Rattle.field.specs.Fields.{how_related, term_id, link_type, link_type_reserved, group_id, precedence, uri_length, number_items_reserved, text_length, descriptor_length, icon_id, link_length_reserved, low}
use Rattle.locator.specs.Syntax.{locator_bytes}
use Rattle.locator.specs.Writing as writing
use Rattle.link.specs.Syntax.{field_bytes}
use Rattle.link.specs.Records.{items_of, link_of}
use Rattle.link.specs.declared.Range.{Range}
use Rattle.link.specs.declared.LinkItem.{LinkItem}
use Rattle.link.specs.declared.LinkFields.{LinkFields}
use Rattle.link.specs.declared.LinkInfo.{LinkInfo}
use Rattle.link.specs.Options.{LinkLocator, MediaUri}

-- ---- by their lowest bits, and as far as the text has it

-- fields with each narrow number by its lowest bits
abbrev pub narrowed : LinkFields → LinkFields
narrowed f =
    record {
      reserved_link_info_length = low link_length_reserved f.reserved_link_info_length;
      link_type = low link_type f.link_type;
      reserved_link_type = low link_type_reserved f.reserved_link_type;
      how_related = low how_related f.how_related;
      term_id = low term_id f.term_id;
      group_id = low group_id f.group_id;
      precedence = low precedence f.precedence;
      media_uri = f.media_uri;
      dvb_binary_locator = f.dvb_binary_locator;
      reserved_number_items = low number_items_reserved f.reserved_number_items;
      number_items = f.number_items;
      default_icon_flag = f.default_icon_flag;
      icon_id = low icon_id f.icon_id;
      descriptors = f.descriptors;
    }

-- the bytes that the text t has of a range: all of them, or none
unfoldable pub range_in : List ℕ → Range → List ℕ
range_in t r = span_of t (span_in t (span r.start r.length))

-- ---- the parts

-- the bytes of link_type to precedence
unfoldable pub head_bytes : LinkFields → List ℕ
head_bytes f = field_bytes (link_of [] (record { fields = narrowed f; items = [] }))

-- bytes before a range, and the range
abbrev pub headed : List ℕ → List ℕ → Range → List (List ℕ)
headed t head r = head ∷ range_in t r ∷ []

unfoldable pub uri_parts : List ℕ → MediaUri → List (List ℕ)
uri_parts t None = []
uri_parts t (Some r) = headed t (low uri_length r.length ∷ []) r

unfoldable pub locator_parts : LinkLocator → List (List ℕ)
locator_parts None = []
locator_parts (Some l) = locator_bytes (writing.narrowed l) ∷ []

-- the byte with the number of items, n
abbrev pub count_bytes : LinkFields → ℕ → List ℕ
count_bytes f n = ((narrowed f).reserved_number_items * 64 + n) ∷ []

-- before n items
unfoldable pub front_parts : List ℕ → LinkFields → ℕ → List (List ℕ)
front_parts t f n = head_bytes f ∷ (uri_parts t f.media_uri ++ (locator_parts f.dvb_binary_locator ++ (count_bytes f n ∷ [])))

unfoldable pub item_parts : List ℕ → LinkItem → List (List ℕ)
item_parts t i =
    let language = i.language_code in
    let text = i.promotional_text in
    headed t (language.first ∷ language.second ∷ language.third ∷ low text_length text.length ∷ []) text

unfoldable pub items_parts : List ℕ → List LinkItem → List (List ℕ)
items_parts t [] = []
items_parts t (i ∷ is) = item_parts t i ++ items_parts t is

-- behind the items
unfoldable pub tail_parts : List ℕ → LinkFields → List (List ℕ)
tail_parts t f =
    headed t (length_bytes (bit f.default_icon_flag * 8 + (narrowed f).icon_id) (low descriptor_length f.descriptors.length)) f.descriptors

unfoldable pub link_parts : List ℕ → LinkInfo → List (List ℕ)
link_parts t k = front_parts t k.fields (length (items_of k)) ++ (items_parts t (items_of k) ++ tail_parts t k.fields)

-- ---- put down

-- parts written into xs one behind the other from at on. Where one has no room, the places behind it are past the end, so
-- none of those behind it has
abbrev pub put_all : List ℕ → ℕ → List (List ℕ) → List ℕ
put_all xs at [] = xs
put_all xs at (p ∷ ps) = put_all (put_at xs at p) (at + length p) ps

-- the buffer with the body of k from at on
unfoldable pub link_put : List ℕ → ℕ → List ℕ → LinkInfo → List ℕ
link_put xs at t k = put_all xs at (link_parts t k)
