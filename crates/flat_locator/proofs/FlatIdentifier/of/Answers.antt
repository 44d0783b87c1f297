use borrow.Author.Rules.{rules}
use Rattle.flat_locator.proofs.FlatIdentifier.of.Goals as goal

pub returns-in-None : goal.returns-in-None
returns-in-None c = rw c.in-None.is

pub returns-in-EventId : goal.returns-in-EventId
returns-in-EventId c = rw c.in-EventId.is

pub returns-in-TvaIdEit : goal.returns-in-TvaIdEit
returns-in-TvaIdEit c = rw c.in-TvaIdEit.is

pub returns-in-TvaIdPes : goal.returns-in-TvaIdPes
returns-in-TvaIdPes c = rw c.in-TvaIdPes.is
