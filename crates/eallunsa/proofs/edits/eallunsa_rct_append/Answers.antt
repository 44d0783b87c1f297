use borrow.Author.Rules.{rules}
use Rattle.eallunsa.proofs.edits.eallunsa_rct_append.Goals as goal

pub returns : goal.returns
returns c =
    let told = rw c.link.ensures at c.append.ensures in
    record { value = rw (← told.value) c.of.ensures; b_after = told.b_after }
