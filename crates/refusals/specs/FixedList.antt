-- The fixed list: the numbers that a call can answer, 1 to 25, 28 to 30 and 38 to 46.
-- Assumes nothing.
use Rattle.std.specs.Prelude.{ℕ, List, [], ◌∷◌}
use Rattle.wire.specs.Refusals.{too_short, not_rct, wrong_length, entry_cut, link_too_long, body_too_short, uri_length_cut, uri_cut, no_locator, locator_cut, item_count_cut, item_cut, text_cut, icon_cut, descriptors_too_long, link_slack, loop_cut, loop_too_long, section_slack, wrong_crc, no_such_number, too_wide, against_type, against_rule, past_text, section_too_long, no_room, no_more_links, no_syntax_indicator, descriptor_cut, not_rnt, common_too_long, provider_cut, provider_too_long, provider_name_cut, provider_descriptors_cut, authority_cut}

abbrev pub fixed_list : List ℕ
fixed_list =
    too_short
    ∷ not_rct
    ∷ wrong_length
    ∷ entry_cut
    ∷ link_too_long
    ∷ body_too_short
    ∷ uri_length_cut
    ∷ uri_cut
    ∷ no_locator
    ∷ locator_cut
    ∷ item_count_cut
    ∷ item_cut
    ∷ text_cut
    ∷ icon_cut
    ∷ descriptors_too_long
    ∷ link_slack
    ∷ loop_cut
    ∷ loop_too_long
    ∷ section_slack
    ∷ wrong_crc
    ∷ no_such_number
    ∷ too_wide
    ∷ against_type
    ∷ against_rule
    ∷ past_text
    ∷ section_too_long
    ∷ no_room
    ∷ no_more_links
    ∷ no_syntax_indicator
    ∷ descriptor_cut
    ∷ not_rnt
    ∷ common_too_long
    ∷ provider_cut
    ∷ provider_too_long
    ∷ provider_name_cut
    ∷ provider_descriptors_cut
    ∷ authority_cut
    ∷ []
