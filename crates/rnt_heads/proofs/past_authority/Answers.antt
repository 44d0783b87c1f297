use borrow.Author.Rules.{rules}
use Rattle.rnt_heads.proofs.past_authority.Goals as goal

pub returns : goal.returns
returns c = rw (c.past_named.ensures, c.smaller-e.ensures)
