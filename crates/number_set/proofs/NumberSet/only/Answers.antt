use mathlib.Core.Bool.{Bool, true}
use mathlib.Core.List.{List}
use mathlib.Core.Path.{ap, ◌∙◌}
use lib.ListN.{set}
use Rattle.number_set.specs.declared.NumberSet.{NumberSet}
use Rattle.number_set.specs.Members.{members, of_members}
use Rattle.number_set.proofs.Sets.{members-none}
use borrow.Author.Rules.{rules}
use Rattle.number_set.proofs.NumberSet.only.Goals as goal

pub returns : goal.returns
returns c =
    c.with.ensures
    ∙ ap (λ (s : NumberSet). of_members (set (members s) c.args.k true)) c.none.ensures
    ∙ ap (λ (l : List Bool). of_members (set l c.args.k true)) members-none
