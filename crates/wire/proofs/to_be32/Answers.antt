use Rattle.wire.specs.Numbers.{bytes32}
use borrow.Author.Rules.{rules}
use Rattle.wire.proofs.to_be32.Reads as reads
use Rattle.wire.proofs.to_be32.Goals as goal

pub returns : goal.returns
unfolding bytes32
returns c = search rules
