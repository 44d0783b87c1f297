use Rattle.locator.specs.Writing.{narrowed}
use Rattle.locator.proofs.Written.{length_most, wrote-written}
use borrow.Author.Rules.{rules}
use Rattle.locator_writer.proofs.locator_bytes.Goals as goal

pub put_locator-length-requires : goal.put_locator-length-requires
put_locator-length-requires c = length_most (narrowed c.args.locator)

pub returns : goal.returns
returns c =
    let args = c.args in
    wrote-written args.locator _ _ c.put_locator-length.ensures
