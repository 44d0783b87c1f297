use mathlib.Core.Path.{refl}
use Rattle.number_set.specs.Members.{of_members, words_of, word, no_members}
use Rattle.number_set.proofs.NumberSet.none.Goals as goal

pub returns : goal.returns
unfolding of_members words_of word no_members
returns c = refl
