use Rattle.descriptors.proofs.Walks.{size-short}
use borrow.Author.Rules.{rules}
use Rattle.descriptors.proofs.front_size.Goals as goal

pub returns-then-s-lt-HEAD : goal.returns-then-s-lt-HEAD
returns-then-s-lt-HEAD c = size-short c.args.s.now c.if-s-lt-HEAD.true
