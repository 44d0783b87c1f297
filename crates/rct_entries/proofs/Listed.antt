-- Which numbers an entry by its place can answer at all: 4 to 16.
-- Assumes nothing.
use Prim.Native.Nat.{ℕ}
use mathlib.Core.Path.{◌≡◌}
use mathlib.Core.Bool.{true}
use mathlib.Core.List.{List}
use Rattle.wire.specs.declared.verdict.Refusal.{Refusal}
use Rattle.wire.proofs.Among.{listed}
use Rattle.rct.proofs.Listed.{entry_reading, entry_listed}
use Rattle.rct_blocks.specs.Ends.{end_of}
use Rattle.rct_entries.specs.Entries.{entry_read}
use Rattle.rct_entries.proofs.EntryLaws.{entry-had-none}
use Rattle.std.specs.Prelude.{Err}

pub entry-read-listed : (xs : List ℕ) (p : ℕ) (r : Refusal) → entry_read xs p ≡ Err r → listed r.number entry_reading ≡ true
entry-read-listed xs p r e = entry_listed xs (end_of xs) p r (entry-had-none xs p r e)
