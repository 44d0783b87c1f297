use borrow.Author.Rules.{rules}
use Rattle.eallunsa.proofs.indexing.put_last.Goals as goal

pub returns : goal.returns
returns c =
    record { value = rw c.link.ensures at c.append_placed.ensures.value; b_after = rw c.link.ensures at c.append_placed.ensures.b_after }
