use mathlib.Core.Path.{◌∙◌, ap}
use Rattle.wire.specs.Choice.{bit}
use borrow.Author.Rules.{rules}
use Rattle.locator_writer.proofs.head.Goals as goal

pub returns : goal.returns
returns c =
    let low = c.low in
    let flag2 = c.flag-2 in
    let inline-service = c.inline_service in
    let flag = c.flag in
    let identifier-type = c.identifier_type in
    rw (c.last_bits.ensures.0, c.low-2.ensures, low.ensures, flag2.ensures.0 ∙ ap bit inline-service.ensures, flag.ensures.0, identifier-type.ensures.0)
