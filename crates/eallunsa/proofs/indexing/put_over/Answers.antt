use borrow.Author.Rules.{rules}
use Rattle.eallunsa.proofs.indexing.put_over.Goals as goal

pub returns : goal.returns
returns c =
    record { value = rw c.link.ensures at c.replace_placed.ensures.value; b_after = rw c.link.ensures at c.replace_placed.ensures.b_after }
