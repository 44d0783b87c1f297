use borrow.Author.Rules.{rules}
use Rattle.rnt_readings.proofs.plain_places.Goals as goal

pub returns : goal.returns
returns c = rw c.plain.ensures at c.read_places.ensures
