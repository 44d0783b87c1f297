-- The answer of an entry by its place in a payload, the bytes of a section up to its CRC.
-- Assumes nothing.
use Rattle.std.specs.Prelude.{ℕ, ◌+◌, List, Err, Ok, Result}
use Rattle.length_field.specs.Lengths.{beside_at, block_end}
use Rattle.link.specs.Reading.{items_place}
use Rattle.link.specs.Records.{fields_at}
use Rattle.link.specs.declared.LinkFields.{LinkFields}
use Rattle.rct.specs.Reading.{body_in, entry_verdict}
use Rattle.rct_blocks.specs.Ends.{end_of}
use Rattle.rct_entries.specs.declared.EntryRead.{EntryRead}
use Rattle.wire.specs.Verdict.{Verdict}
use Rattle.wire.specs.declared.verdict.Refusal.{Refusal}

-- a link without its items, the place of the first of them, and the place behind the link
abbrev pub got_entry : LinkFields → ℕ → ℕ → Result EntryRead Refusal
got_entry k i q = Ok (record { fields = k; items_at = i; next = q })

-- the fields of the link, the place of its first item and the place behind the entry, or the refusal
unfoldable pub entry_answer : Verdict → LinkFields → ℕ → ℕ → Result EntryRead Refusal
entry_answer (Ok _) k i q = got_entry k i q
entry_answer (Err r) k i q = Err r

-- the entry at p, ranges and places counted from the payload's first byte
unfoldable pub entry_read : List ℕ → ℕ → Result EntryRead Refusal
entry_read xs p =
    entry_answer (entry_verdict xs (end_of xs) p) (fields_at (p + 2) (beside_at xs p) (body_in xs p)) (p + 2 + items_place (body_in xs p)) (block_end xs p)
