use mathlib.Core.Path.{sym}
use lib.ListN.{get_or-eq_default}
use borrow.Author.Rules.{rules}
use Rattle.rct_index.proofs.RctIndex.place.Goals as goal

pub returns-then-places-number : goal.returns-then-places-number
returns-then-places-number c = sym (get_or-eq_default c.args.places.now 0 c.if-places-number.true)
