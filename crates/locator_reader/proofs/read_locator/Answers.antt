use mathlib.Core.Path.{sym, ◌∙◌}
use native.Mathlib.Omega.{arith}
use Rattle.locator.specs.Reading.{locator_at, size_at}
use Rattle.locator.proofs.Answers.{size-had, size-read, size-refused}
use borrow.Author.Rules.{rules}
use Rattle.wire.proofs.Verdicts.{handed-on}
use Rattle.locator_reader.proofs.read_locator.Goals as goal

pub be16_at-head-requires : goal.be16_at-head-requires
be16_at-head-requires c =
    let locator-size = c.locator_size in
    let args = c.args in
    omega (arith, (size-had args.s.now _ (sym locator-size.ensures ∙ c.in_ok-used.was)).head)

pub locator_at-requires : goal.locator_at-requires
unfolding size_at
locator_at-requires c =
    let locator-size = c.locator_size in
    let args = c.args in
    let there = (size-had args.s.now _ (sym locator-size.ensures ∙ c.in_ok-used.was)).there in (search rules, omega (arith, c.service_end.ensures.0, rw (← c.be16_at-head.ensures) at there), search rules)

pub returns-in_err-used : goal.returns-in_err-used
returns-in_err-used c =
    let locator-size = c.locator_size in
    let args = c.args in
    handed-on _ _ c.from_residual.ensures ∙ sym (size-refused args.s.now _ (sym locator-size.ensures ∙ c.in_err-used.was))

pub returns : goal.returns
unfolding locator_at
returns c =
    let be16-at = c.be16_at-head in
    let locator-size = c.locator_size in
    let args = c.args in
    rw (c.locator_at.ensures, c.service_end.ensures.0, be16-at.ensures) (sym (size-read args.s.now _ (sym locator-size.ensures ∙ c.in_ok-used.was)))
