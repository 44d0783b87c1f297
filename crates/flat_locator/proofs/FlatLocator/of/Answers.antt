use Rattle.flat_locator.specs.Locators.{locator_flat}
use borrow.Author.Rules.{rules}
use Rattle.flat_locator.proofs.FlatLocator.of.Goals as goal

pub returns : goal.returns
unfolding locator_flat
returns c = rw (c.flag.ensures.0, c.of.ensures, c.of-2.ensures, c.of-3.ensures)
