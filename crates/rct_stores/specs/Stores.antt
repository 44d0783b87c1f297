-- What an edit stores in a section in its buffer besides the link: the head's numbers, and filler behind a new end. Both take every
-- buffer and all numbers.
-- Assumes nothing.
use Rattle.std.specs.Prelude.{ℕ, ◌+◌, ◌-◌, ◌%◌, List, leb, ltb, length, replicate}
use Rattle.std.proofs.lemmas.List.Edits.{sets}
use Rattle.wire.specs.Choice.{pick}
use Rattle.length_field.specs.Lengths.{longest}
use Rattle.rct.specs.Syntax.{link_count_place}
use Rattle.rct_edit.specs.Edit.{filler}
use Rattle.rct_edit.specs.Rehead.{rehead}

-- the numbers anew where the number of links lies within, and else nothing; of section_length the lowest twelve bits
unfoldable pub numbers_put : List ℕ → ℕ → ℕ → List ℕ
numbers_put xs len count = pick (ltb link_count_place (length xs)) (rehead xs (len % (longest + 1)) count) xs

-- filled from p up to e
unfoldable pub filled_up : List ℕ → ℕ → ℕ → List ℕ
filled_up xs p e = sets xs p (replicate (e - p) filler)

-- the same where e lies within, and else nothing
unfoldable pub fill_put : List ℕ → ℕ → ℕ → List ℕ
fill_put xs p e = pick (leb e (length xs)) (filled_up xs p e) xs
