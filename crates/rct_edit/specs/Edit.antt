-- Making a section, appending a link and replacing a link in a lent buffer: the answer, and the buffer afterwards. All of it is said by the records; v is the verdict on what is handed in, which comes before the verdict on the result.
-- Assumes nothing.
use Rattle.std.specs.Prelude.{ℕ, ◌+◌, ◌-◌, max, List, [], ◌∷◌, ◌++◌, ltb, leb, length, set, drop, replicate, Err, Ok}
use Rattle.length_field.specs.Lengths.{Block}
use Rattle.wire.specs.Refusals.{section_too_long, no_room, no_more_links}
use Rattle.wire.specs.Verdict.{refuse, ◌▷◌, Fine, Verdict}
use Rattle.link.specs.Syntax.{Link}
use Rattle.frame.specs.Syntax.{limit, uncounted}
use Rattle.frame.specs.Reading.{total_of}
use Rattle.rct.specs.declared.RctHeader.{RctHeader}
use Rattle.rct.specs.Syntax.{Section, section_length, full_length, sealed}
use Rattle.rct.specs.Reading.{count_at, section_at, number_row, checked}

-- the most links that the count's byte can tell, and what freed bytes become
abbrev pub most_links : ℕ
most_links = 255

abbrev pub filler : ℕ
filler = 0xFF

-- ---- the records

-- a section with other links
abbrev pub with_links : Section → List Link → Section
with_links s ls = record { header = s.header; links = ls; loop = s.loop }

-- with no links; with link k put in; with a link more
abbrev pub bare : RctHeader → Block → Section
bare h b = record { header = h; links = []; loop = b }

unfoldable pub with_link : Section → ℕ → Link → Section
with_link s k l = with_links s (set s.links k l)

unfoldable pub with_next : Section → Link → Section
with_next s l = with_links s (s.links ++ l ∷ [])

-- ---- the buffer

-- s in place of the section that was there: what lies between a new end and the old one is filled, and what lies behind both stays
unfoldable pub written : List ℕ → Section → List ℕ
written xs s = sealed s ++ (replicate (total_of xs - full_length s) filler ++ drop (max (total_of xs) (full_length s)) xs)

-- s from the first byte on; what lies behind it stays
unfoldable pub fresh : List ℕ → Section → List ℕ
fresh xs s = sealed s ++ drop (full_length s) xs

-- ---- the verdicts, in the order of docs/REFUSALS.md

-- 28 and 29 of a section_length
abbrev pub length_row : ℕ → Verdict
length_row len = refuse (ltb limit len) section_too_long len limit

abbrev pub room_row : ℕ → ℕ → Verdict
room_row room len = refuse (ltb room (uncounted + len)) no_room (uncounted + len) room

unfoldable pub room_rows : ℕ → ℕ → Verdict
room_rows room len = length_row len ▷ room_row room len

-- there are as many links as can be
abbrev pub count_row : List ℕ → Verdict
count_row xs = refuse (leb most_links (count_at xs)) no_more_links most_links 0

-- an edit of the section in xs, which would become s: the checked reading, the call's own row, the verdict v on the link, and the room
abbrev pub edit_verdict : List ℕ → Verdict → Verdict → Section → Verdict
edit_verdict xs row v s = checked xs ▷ row ▷ v ▷ room_rows (length xs) (section_length s)

unfoldable pub replace_verdict : List ℕ → ℕ → Verdict → Link → Verdict
replace_verdict xs k v l = edit_verdict xs (number_row xs k) v (with_link (section_at xs) k l)

unfoldable pub append_verdict : List ℕ → Verdict → Link → Verdict
append_verdict xs v l = edit_verdict xs (count_row xs) v (with_next (section_at xs) l)

-- of a section with no links
unfoldable pub make_verdict : ℕ → Verdict → Section → Verdict
make_verdict room v s = v ▷ room_rows room (section_length s)

-- ---- the outcomes

pub record Outcome : Type 0 where
  pub verdict : Verdict
  pub total : ℕ
  pub buffer : List ℕ

-- fine: the total and the new buffer; refused: total 0 and the old one
unfoldable pub done : Verdict → ℕ → List ℕ → List ℕ → Outcome
done (Ok _) total new old = record { verdict = Fine; total = total; buffer = new }
done (Err r) total new old = record { verdict = Err r; total = 0; buffer = old }

unfoldable pub replaced : List ℕ → ℕ → Verdict → Link → Outcome
replaced xs k v l = done (replace_verdict xs k v l) (full_length (with_link (section_at xs) k l)) (written xs (with_link (section_at xs) k l)) xs

unfoldable pub appended : List ℕ → Verdict → Link → Outcome
appended xs v l = done (append_verdict xs v l) (full_length (with_next (section_at xs) l)) (written xs (with_next (section_at xs) l)) xs

unfoldable pub made : List ℕ → Verdict → Section → Outcome
made xs v s = done (make_verdict (length xs) v s) (full_length s) (fresh xs s) xs
