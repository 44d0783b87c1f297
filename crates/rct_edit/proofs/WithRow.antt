-- The verdicts on appending and replacing with the row that request 106 took out of them put back (27, of a body above what 12 bits
-- tell, between 28 and 29). BodyRow has the laws.
-- Assumes nothing.
use Rattle.std.specs.Prelude.{ℕ, List, ltb, length}
use Rattle.length_field.specs.Lengths.{longest}
use Rattle.wire.specs.Verdict.{refuse, ◌▷◌, Verdict}
use Rattle.link.specs.Syntax.{Link, link_body}
use Rattle.rct.specs.Syntax.{Section, section_length}
use Rattle.rct.specs.Reading.{checked}
use Rattle.rct_edit.specs.Edit.{length_row, room_row}

-- the row, of the length of a link's body
abbrev pub body_row : ℕ → Verdict
body_row n = refuse (ltb longest n) 27 n longest

-- an edit's verdict with the row in its place; the section would become s with the link l in it
abbrev pub with_row : List ℕ → Verdict → Verdict → Link → Section → Verdict
with_row xs row v l s = checked xs ▷ row ▷ v ▷ length_row (section_length s) ▷ body_row (length (link_body l)) ▷ room_row (length xs) (section_length s)
