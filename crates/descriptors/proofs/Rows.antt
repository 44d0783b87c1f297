-- Loops byte by byte: some that are whole, with their number, and some that are cut off, with the refusal's number and figures.
-- Assumes nothing.
use mathlib.Core.Path.{◌≡◌, refl}
use mathlib.Core.List.{[], ◌∷◌}
use Rattle.wire.specs.Verdict.{bad, refuse, ◌▷◌, Fine}
use Rattle.descriptors.specs.Reading.{told, descriptors_of, cut_verdict}

pub record Rows : Type 0 where
  pub empty : (cut_verdict 20 [] ≡ Fine) × (descriptors_of [] ≡ [])
  pub bare : (cut_verdict 20 (0x00 ∷ 0x00 ∷ []) ≡ Fine) × (descriptors_of (0x00 ∷ 0x00 ∷ []) ≡ record { tag = 0; body = [] } ∷ [])
  pub two : (cut_verdict 20 (0x4D ∷ 0x02 ∷ 0x41 ∷ 0x42 ∷ 0x80 ∷ 0x00 ∷ []) ≡ Fine)
      × (descriptors_of (0x4D ∷ 0x02 ∷ 0x41 ∷ 0x42 ∷ 0x80 ∷ 0x00 ∷ []) ≡ record { tag = 0x4D; body = 0x41 ∷ 0x42 ∷ [] } ∷ record { tag = 0x80; body = [] } ∷ [])
  pub no_length : cut_verdict 20 (0x4D ∷ []) ≡ bad 39 20 1
  pub short : cut_verdict 13 (0x4D ∷ 0x02 ∷ 0x41 ∷ []) ≡ bad 39 13 3
  pub second : cut_verdict 13 (0x00 ∷ 0x00 ∷ 0x4D ∷ 0x05 ∷ 0x41 ∷ []) ≡ bad 39 15 3

pub rows : Rows
unfolding descriptors_of cut_verdict told refuse ◌▷◌
rows = record { empty = (refl, refl); bare = (refl, refl); two = (refl, refl); no_length = refl; short = refl; second = refl }
