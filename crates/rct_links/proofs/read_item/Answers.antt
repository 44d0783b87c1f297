use mathlib.Core.Path.{◌≡◌, sym, ◌∙◌}
use native.Mathlib.Omega.{arith}
use Rattle.wire.proofs.Lists.{bytes-known}
use Rattle.wire.proofs.Verdicts.{handed-on}
use Rattle.rct_bodies.proofs.Bodies.{body-stopped, body-known}
use Rattle.rct_links.proofs.Numbers.{number-item, item-stopped}
use borrow.Author.Rules.{rules}
use Rattle.rct_links.proofs.read_item.Goals as goal

pub overflow_cast-body : goal.overflow_cast-body
overflow_cast-body c =
    let s = c.args.s.now in
    let k = body-known s c.args.number _ (bytes-known s c.type_inv.s) (sym c.numbered_body.ensures ∙ c.in_ok-found.was) in
    omega (arith, k.short)

pub returns : goal.returns
returns c =
    let args = c.args in
    let s = args.s.now in
    let k = body-known s args.number _ (bytes-known s c.type_inv.s) (sym c.numbered_body.ensures ∙ c.in_ok-found.was) in
    rw c.handed.ensures.result_value at c.read_item.ensures ∙ number-item s args.number _ k args.item

pub returns-in_err-found : goal.returns-in_err-found
returns-in_err-found c =
    let args = c.args in
    let s = args.s.now in
    handed-on _ _ c.from_residual.ensures ∙ item-stopped s args.number args.item _ (body-stopped s args.number _ (sym c.numbered_body.ensures ∙ c.in_err-found.was))
