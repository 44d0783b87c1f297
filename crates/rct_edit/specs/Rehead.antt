-- What an edit makes of the head of a section in its buffer.
-- Assumes nothing.
use Rattle.std.specs.Prelude.{ℕ, List, set}
use Rattle.std.proofs.lemmas.List.Edits.{sets}
use Rattle.length_field.specs.Lengths.{length_bytes, beside_at}
use Rattle.rct.specs.Syntax.{link_count_place}

-- section_length anew, the four bits beside it kept, and the number of links
unfoldable pub rehead : List ℕ → ℕ → ℕ → List ℕ
rehead xs len count = set (sets xs 1 (length_bytes (beside_at xs 1) len)) link_count_place count
