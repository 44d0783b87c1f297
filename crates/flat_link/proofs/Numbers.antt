-- Zeros stand where nothing is.
-- Assumes nothing.
use mathlib.Core.Path.{◌≡◌, refl}
use Rattle.link.specs.Records.{no_fields}
use Rattle.flat_locator.specs.Locators.{locator_flat}
use Rattle.flat_locator.specs.declared.FlatLocator.{FlatLocator}
use Rattle.flat_link.specs.Links.{no_locator, fields_flat}

abbrev pub zeros : FlatLocator
zeros =
    record {
      scheduled_time_reliability = 0;
      reserved = 0;
      start_date = 0;
      service =
          record {
            inline_service = 0;
            dvb_service_triplet_id = 0;
            reserved_inline_service = 0;
            transport_stream_id = 0;
            original_network_id = 0;
            service_id = 0;
          };
      start_time = 0;
      duration = 0;
      identifier = record { identifier_type = 0; component = 0; id = 0 };
      windows = record { present = 0; early_start_window = 0; late_end_window = 0 };
    }

pub no-locator : locator_flat no_locator ≡ zeros
unfolding locator_flat
no-locator = refl

pub no_fields_lem :
    fields_flat no_fields ≡
    record {
      reserved_link_info_length = 0;
      link_type = 0;
      reserved_link_type = 0;
      how_related = 0;
      term_id = 0;
      group_id = 0;
      precedence = 0;
      has_media_uri = 0;
      media_uri = record { start = 0; length = 0 };
      has_dvb_binary_locator = 0;
      dvb_binary_locator = zeros;
      reserved_number_items = 0;
      number_items = 0;
      default_icon_flag = 0;
      icon_id = 0;
      descriptors = record { start = 0; length = 0 };
    }
unfolding fields_flat no_fields locator_flat
no_fields_lem = refl
