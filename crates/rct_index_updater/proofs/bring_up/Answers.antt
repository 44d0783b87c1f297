use mathlib.Core.Path.{sym, ◌∙◌}
use Rattle.rct_index_updater.specs.Bringing.{anew_by}
use Rattle.rct_index_updater.proofs.Tested.{fit-numbers}
use borrow.Author.Rules.{rules}
use Rattle.rct_index_updater.proofs.bring_up.Goals as goal

pub told_anew-requires : goal.told_anew-requires
told_anew-requires c = fit-numbers _ _ _ _ _ (sym c.are_numbers.ensures ∙ c.if-are_numbers.true)

pub returns-then-are_numbers : goal.returns-then-are_numbers
unfolding anew_by
returns-then-are_numbers c = rw (c.in-Ok.is, ← c.are_numbers.ensures, c.if-are_numbers.true) c.told_anew.ensures

pub returns-else-are_numbers : goal.returns-else-are_numbers
unfolding anew_by
returns-else-are_numbers c = rw (c.in-Ok.is, ← c.are_numbers.ensures, c.if-are_numbers.false)

pub returns-in-Err : goal.returns-in-Err
unfolding anew_by
returns-in-Err c = rw c.in-Err.is
