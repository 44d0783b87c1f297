use mathlib.Core.Path.{◌≡◌, sym, ◌∙◌}
use native.Mathlib.Omega.{arith}
use Rattle.wire.proofs.Lists.{bytes-known}
use Rattle.wire.proofs.Verdicts.{handed-on}
use Rattle.rct_bodies.proofs.Bodies.{body-stopped, body-known}
use Rattle.rct_links.proofs.Numbers.{number-link, link-stopped}
use borrow.Author.Rules.{rules}
use Rattle.rct_links.proofs.read_link.Goals as goal

pub overflow_cast-body : goal.overflow_cast-body
overflow_cast-body c =
    let s = c.args.s.now in
    let k = body-known s c.args.number _ (bytes-known s c.type_inv.s) (sym c.numbered_body.ensures ∙ c.in_ok-found.was) in
    omega (arith, k.short)

pub returns : goal.returns
returns c =
    let s = c.args.s.now in
    let k = body-known s c.args.number _ (bytes-known s c.type_inv.s) (sym c.numbered_body.ensures ∙ c.in_ok-found.was) in
    rw c.handed.ensures.result_value at c.read_link.ensures ∙ number-link s c.args.number _ k

pub returns-in_err-found : goal.returns-in_err-found
returns-in_err-found c =
    let s = c.args.s.now in
    handed-on _ _ c.from_residual.ensures ∙ link-stopped s c.args.number _ (body-stopped s c.args.number _ (sym c.numbered_body.ensures ∙ c.in_err-found.was))
