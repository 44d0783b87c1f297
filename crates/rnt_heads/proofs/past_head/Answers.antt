use borrow.Author.Rules.{rules}
use Rattle.rnt_heads.proofs.past_head.Goals as goal

pub returns : goal.returns
returns c = rw (c.past_provider_head.ensures, c.smaller-e.ensures)
