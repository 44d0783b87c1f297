-- What is built of a payload, the bytes of a section up to its CRC: nothing that a public contract cites.
-- Assumes nothing.
use Rattle.std.specs.Prelude.{ℕ, ◌+◌, List, length, drop}
use Rattle.wire.specs.Verdict.{◌▷◌, Verdict}
use Rattle.descriptors.specs.Reading.{descriptors_of, cut_verdict}
use Rattle.rct.specs.Syntax.{head_length}
use Rattle.rct.specs.Reading.{after, links_at, links_verdict, loop_verdict}
use Rattle.rct_blocks.specs.Ends.{end_of}
use Rattle.rct_index.specs.Index.{sets_of, entry_places, filled_places}
use Rattle.rct_index.specs.declared.RctIndex.{RctIndex}

-- the loop at p: its rows, then its descriptors', and how many they are
unfoldable pub tail_rows : List ℕ → ℕ → Verdict
tail_rows ys p = loop_verdict ys (end_of ys) p ▷ cut_verdict (p + 2) (drop (p + 2) ys)

unfoldable pub tail_count : List ℕ → ℕ → ℕ
tail_count ys p = length (descriptors_of (drop (p + 2) ys))

-- n links, then the loop
unfoldable pub payload_rows : ℕ → List ℕ → Verdict
payload_rows n ys = links_verdict n ys (end_of ys) head_length ▷ tail_rows ys (after n ys head_length)

unfoldable pub payload_index : ℕ → List ℕ → RctIndex
payload_index n ys =
    record {
      sets = sets_of (links_at n ys head_length);
      places = filled_places (entry_places head_length (links_at n ys head_length));
      descriptors = tail_count ys (after n ys head_length);
    }
