-- What stands beside a refusal, spelt out: zeros, neither URI nor locator, and 63 items of zeros; and where a part is that
-- is not there: no bytes, at place 0.
-- Assumes nothing.
use Prim.Native.Nat.{ℕ, ◌≤◌}
use mathlib.Core.Path.{◌≡◌, refl}
use mathlib.Core.Bool.{false}
use mathlib.Core.List.{List}
use lib.ListN.{replicate}
use borrow.Author.Tests.{le-leb}
use Rattle.wire.specs.Choice.{pick}
use Rattle.wire.specs.Refusals.{no_such_number}
use Rattle.wire.specs.Verdict.{is_fine, refuse, ◌▷◌, Verdict}
use Rattle.wire.specs.declared.verdict.Refusal.{Refusal}
use Rattle.spans.specs.declared.Span.{Span}
use Rattle.link.specs.Syntax.{uri_due}
use Rattle.link.specs.Reading.{type_at, items_place, item_count, item_place, body_verdict}
use Rattle.link.specs.Records.{no_fields, no_link}
use Rattle.link.specs.Answers.{item_row, item_rows}
use Rattle.link.specs.Parts.{uri_span, text_at, text_span, descriptor_span}
use Rattle.link.specs.declared.LinkFields.{LinkFields}
use Rattle.link.specs.declared.LinkItem.{LinkItem}
use Rattle.std.specs.Prelude.{Err, None, Ok}

abbrev zero_item : LinkItem
zero_item = record { language_code = record { first = 0; second = 0; third = 0 }; promotional_text = record { start = 0; length = 0 } }

abbrev zero_fields : LinkFields
zero_fields =
    record {
      reserved_link_info_length = 0;
      link_type = 0;
      reserved_link_type = 0;
      how_related = 0;
      term_id = 0;
      group_id = 0;
      precedence = 0;
      media_uri = None;
      dvb_binary_locator = None;
      reserved_number_items = 0;
      number_items = 0;
      default_icon_flag = false;
      icon_id = 0;
      descriptors = record { start = 0; length = 0 };
    }

pub no_fields_lem : no_fields ≡ zero_fields
unfolding no_fields
no_fields_lem = refl

pub no-link : no_link ≡ record { fields = zero_fields; items = replicate 63 zero_item }
unfolding no_link no_fields
no-link = refl

-- ---- parts that are not there

abbrev nowhere : Span
nowhere = record { start = 0; length = 0 }

module _ (xs : List ℕ) where
  -- of a body that is refused
  module _ (r : Refusal) (v : body_verdict xs ≡ Err r) where
    pub no-uri-refused : uri_span xs ≡ nowhere
    unfolding uri_span
    no-uri-refused = rw v

    pub no-text-refused : (i : ℕ) → text_span xs i ≡ nowhere
    unfolding text_span item_rows ◌▷◌
    no-text-refused i = rw v

    pub no-descriptors-refused : descriptor_span xs ≡ nowhere
    unfolding descriptor_span
    no-descriptors-refused = rw v

  -- of a link whose type has no URI
  pub no-uri : uri_due (type_at xs) ≡ false → uri_span xs ≡ nowhere
  unfolding uri_span
  no-uri e = rw e (go (body_verdict xs))
    where
      go : (v : Verdict) → pick (is_fine v) nowhere nowhere ≡ nowhere
      go (Ok _) = refl
      go (Err r) = refl

  -- of an item that is not there
  pub no_text : (i : ℕ) → item_count xs ≤ i → text_span xs i ≡ nowhere
  unfolding text_span item_rows item_row refuse ◌▷◌
  no_text i h = rw (le-leb _ _ h) (go (body_verdict xs))
    where
      go : (v : Verdict) → pick (is_fine (v ▷ Err (record { number = no_such_number; first = i; second = item_count xs }))) (text_at xs (item_place i xs (items_place xs))) nowhere ≡ nowhere
      go (Ok _) = refl
      go (Err r) = refl
