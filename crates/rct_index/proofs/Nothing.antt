-- The index of nothing, in numbers: zeros; it stands beside a refused building where C is answered. And what a refused building answers.
-- Assumes nothing.
use Prim.Native.Nat.{ℕ}
use mathlib.Core.Path.{◌≡◌, refl}
use mathlib.Core.List.{List, [], ◌∷◌}
use lib.ListN.{replicate}
use Rattle.wire.specs.declared.verdict.Refusal.{Refusal}
use Rattle.number_set.specs.Members.{of_members, words_of, word}
use Rattle.rct_index.specs.Index.{sets_of, no_index}
use Rattle.rct_index.specs.Building.{build_verdict, built, building}
use Rattle.rct_index.specs.declared.RctIndex.{RctIndex}
use Rattle.std.specs.Prelude.{Err}

pub record Zeros (i : RctIndex) : Type 0 where
  pub uri : i.sets.uri.words ≡ 0 ∷ 0 ∷ 0 ∷ 0 ∷ []
  pub locator : i.sets.locator.words ≡ 0 ∷ 0 ∷ 0 ∷ 0 ∷ []
  pub icon : i.sets.icon.words ≡ 0 ∷ 0 ∷ 0 ∷ 0 ∷ []
  pub places : i.places ≡ replicate 255 0
  pub descriptors : i.descriptors ≡ 0

pub no_index_lem : Zeros no_index
unfolding no_index sets_of of_members words_of word
no_index_lem = record { uri = refl; locator = refl; icon = refl; places = refl; descriptors = refl }

pub build-refused : (xs : List ℕ) (r : Refusal) → build_verdict xs ≡ Err r → building xs ≡ Err r
unfolding building built
build-refused xs r e = rw e
