-- What private stages of the code answer. No public contract cites these: what a body means is said in link/specs.
-- Assumes nothing.
use Rattle.std.specs.Prelude.{ℕ, ◌+◌, ◌/◌, List, ltb, length, drop}
use Rattle.field.specs.Fields.{low, link_type}
use Rattle.length_field.specs.Lengths.{last_verdict}
use Rattle.wire.specs.Refusals.{body_too_short, icon_cut, descriptors_too_long, link_slack}
use Rattle.wire.specs.Verdict.{refuse, ◌▷◌, Verdict}
use Rattle.locator.specs.Reading.{read_locator}
use Rattle.link.specs.Syntax.{head_length}
use Rattle.link.specs.Reading.{locator_said, locator_used, uri_verdict, count_verdict, rest_verdict}

-- the link type in the first byte
abbrev pub type_in : ℕ → ℕ
type_in b = low link_type (b / 16)

-- the rows up to the URI's end
unfoldable pub uri_rows : List ℕ → Verdict
uri_rows xs = refuse (ltb (length xs) head_length) body_too_short head_length (length xs) ▷ uri_verdict xs

-- a locator at p: row 10, and the place behind it
unfoldable pub locator_row : List ℕ → ℕ → Verdict
locator_row xs p = locator_said (read_locator (drop p xs))

unfoldable pub locator_end : List ℕ → ℕ → ℕ
locator_end xs p = p + locator_used (read_locator (drop p xs))

-- the rows of what a body ends with, at p
unfoldable pub tail_rows : List ℕ → ℕ → Verdict
tail_rows xs p = last_verdict icon_cut descriptors_too_long link_slack xs (length xs) p

-- the rows behind the locator
unfoldable pub rest_rows : List ℕ → Verdict
rest_rows xs = count_verdict xs ▷ rest_verdict xs
