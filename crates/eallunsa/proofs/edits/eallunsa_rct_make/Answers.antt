use borrow.Author.Rules.{rules}
use Rattle.eallunsa.proofs.edits.eallunsa_rct_make.Goals as goal

pub returns : goal.returns
returns c =
    let told = rw c.header.ensures at c.make.ensures in
    record { value = rw (← told.value) c.of.ensures; b_after = told.b_after }
