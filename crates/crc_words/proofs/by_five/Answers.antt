use Prim.Native.Nat.{◌+◌, ◌-◌, ◌%◌, ◌≤◌}
use mathlib.Core.Path.{◌≡◌, refl, ◌∙◌}
use lib.ListN.{length}
use borrow.Author.Rules.{rules}
use Rattle.crc_words.specs.Words.{due_five}
use Rattle.crc_words.proofs.by_five.Goals as goal

pub loop-n-init : goal.loop-n-init
loop-n-init c = (search rules, search rules, refl)

pub loop-n-preserved : goal.loop-n-preserved
loop-n-preserved c =
    let l = c.loop-n in
    (search rules, search rules, c.fold_next-n.ensures.1 ∙ c.fold_next.ensures.1 ∙ l.invariant.2)

pub returns : goal.returns
returns c =
    c.last_five.ensures ∙ c.loop-n.invariant.2 ∙ c.begin_five-n.ensures.result_value
