-- A buffer in which a section was written in place of another: it is made of bytes, and what the old section had more is filled.
-- Assumes nothing.
use Prim.Native.Nat.{ℕ, zero, suc, ◌-◌, ◌<◌, max}
use mathlib.Core.Path.{◌≡◌, ap, ◌∙◌}
use mathlib.Core.List.{List}
use native.Mathlib.Omega.{arith}
use lib.ListN.{take, replicate, length-replicate}
use lib.Seq.{take_at, drop_at}
use Rattle.wire.specs.Lists.{Bytes, part}
use Rattle.wire.proofs.Lists.{bytes-append, bytes_drop}
use Rattle.frame.specs.Reading.{checked_demands, total_of}
use Rattle.rct.specs.Syntax.{Section, full_length, sealed, Fits}
use Rattle.rct.proofs.Checked.{length-sealed, sealed-bytes}
use Rattle.rct_edit.specs.Edit.{filler, written}

bytes-replicate : (n x : ℕ) → x < 256 → Bytes (replicate n x)
bytes-replicate zero x h = tt
bytes-replicate (suc n) x h = (h, bytes-replicate n x h)

module _ (xs : List ℕ) (s : Section) where
  pub written-freed : part (written xs s) (full_length s) (total_of xs - full_length s) ≡ replicate (total_of xs - full_length s) filler
  unfolding written
  written-freed =
      ap (take (total_of xs - full_length s)) (drop_at (sealed s) _ (full_length s) (length-sealed s))
      ∙ take_at (replicate (total_of xs - full_length s) filler) _ (total_of xs - full_length s) (length-replicate (total_of xs - full_length s) filler)

  pub written-bytes : Bytes xs → Fits checked_demands s → Bytes (written xs s)
  unfolding written
  written-bytes b f =
      bytes-append (sealed s) _ (sealed-bytes checked_demands s (omega arith) f)
      (bytes-append (replicate (total_of xs - full_length s) filler) _ (bytes-replicate (total_of xs - full_length s) filler (omega arith)) (bytes_drop (max (total_of xs) (full_length s)) xs b))
