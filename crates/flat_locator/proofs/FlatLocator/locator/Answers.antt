use Rattle.flat_locator.specs.Locators.{locator_of}
use borrow.Author.Rules.{rules}
use Rattle.flat_locator.proofs.FlatLocator.locator.Goals as goal

pub returns : goal.returns
unfolding locator_of
returns c = rw (c.is_set.ensures, c.service.ensures, c.identifier.ensures, c.windows.ensures)
