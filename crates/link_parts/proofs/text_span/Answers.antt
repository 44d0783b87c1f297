use Rattle.link.proofs.Parts.{text-got, text-not}
use borrow.Author.Rules.{rules}
use mathlib.Core.Path.{sym, ◌∙◌}
use Rattle.link_parts.proofs.text_span.Goals as goal

pub returns-in-Ok : goal.returns-in-Ok
returns-in-Ok c =
    let start = c.args in
    let read = c.read_item-read.ensures in
    let got = c.in-Ok.is in
    text-got start.s.now start.number _ (sym read ∙ got)

pub returns-in-Err : goal.returns-in-Err
returns-in-Err c =
    let start = c.args in
    let read = c.read_item-read.ensures in
    text-not start.s.now start.number _ (sym read ∙ c.in-Err.is)
