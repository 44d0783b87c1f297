use Prim.Native.Nat.{◌-◌}
use mathlib.Core.Path.{◌≡◌, sym, ap, ◌∙◌}
use mathlib.Core.List.{map}
use native.Mathlib.Omega.{arith}
use Rattle.length_field.specs.Lengths.{block_end}
use Rattle.wire.specs.Runs.{places_to}
use Rattle.length_field.proofs.Blocks.{block_up}
use Rattle.rnt.specs.Reading.{authority_count, authority_place, provider_verdict}
use Rattle.rnt.proofs.Providers.{provider-within}
use Rattle.rnt_walker.proofs.Walks.{passed-at, passed-refused, read-walked, refused-walked, Sought, sought-start, Walking, walk_start, walk-on, walk-stop, walk_fine, walk-number, place-on, place_end, told-on, told-end}
use borrow.Author.Rules.{rules}
use Rattle.wire.proofs.Verdicts.{handed-on}
use Rattle.rnt_walker.proofs.walk.past_providers.Goals as goal

pub loop-p-init : goal.loop-p-init
loop-p-init c = (walk_start _ _ _ _ _ c.requires.1.0, (sought-start _ _, (sought-start _ _, sought-start _ _)))

pub past_provider-requires : goal.past_provider-requires
past_provider-requires c = (omega arith, (omega arith, omega (arith, c.loop-p.invariant.0.within)))

pub overflow_add-i : goal.overflow_add-i
overflow_add-i c =
    let loop = c.loop-p in
    omega (arith, loop.invariant.0.few, loop.invariant.0.within)

pub loop-p-smaller : goal.loop-p-smaller
loop-p-smaller c =
    let past-provider = c.past_provider in
    let g = passed-at _ _ _ _ _ _ _ (sym past-provider.ensures ∙ c.in_ok-passed.was) in
    omega (arith, g.0)

pub loop-p-preserved : goal.loop-p-preserved
loop-p-preserved c =
    let args = c.args in
    let loop = c.loop-p in
    let loop-test = c.loop-p-test in
    let past-provider = c.past_provider in
    let found_at = c.found_at-provider_at in
    let s = args.s.now in
    let inv = loop.invariant in
    let here = loop-test.true in
    let g = passed-at _ _ _ _ _ _ _ (sym past-provider.ensures ∙ c.in_ok-passed.was) in
    let w = provider-within s _ _ g.1.fine in (
      walk-on (block_end s) (block_up s) _ _ _ _ _ _ inv.0 here g.1.fine g.0 (omega (arith, g.0)),
      (
        rw found_at.ensures (place-on (block_end s) (block_up s) _ _ _ _ _ _ _ inv.1.0 here g.0),
        (
          rw c.found_at-authorities.ensures (told-on (block_end s) (block_up s) _ _ (authority_count s) _ _ _ _ _ _ inv.1.1.0 here g.0 g.1.number),
          rw c.found_at-authority_at.ensures (told-on (block_end s) (block_up s) _ _ (λ q. authority_place s q args.authority) _ _ _ _ _ _ inv.1.1.1 here g.0 g.1.place),
        ),
      ),
    )

pub returns-in_err-passed : goal.returns-in_err-passed
returns-in_err-passed c =
    let args = c.args in
    let loop = c.loop-p in
    let loop-test = c.loop-p-test in
    let past-provider = c.past_provider in
    let pre = c.requires in
    let s = args.s.now in
    let v = walk-stop (block_end s) (block_up s) _ _ _ _ _ _ loop.invariant.0 loop-test.true (passed-refused _ _ _ _ _ (sym past-provider.ensures ∙ c.in_err-passed.was)) in
    handed-on _ _ c.from_residual.ensures ∙ refused-walked _ _ _ (rw (pre.0.1.0, pre.0.1.1) at v)

pub returns : goal.returns
returns c =
    let args = c.args in
    let pre = c.requires in
    let s = args.s.now in
    let inv = c.loop-p.invariant in
    let over = c.loop-p-test.false in
    let pre = pre.0 in
    read-walked _ _ _ (rw (pre.1.0, pre.1.1) at (walk_fine (block_end s) (block_up s) _ _ _ _ _ inv.0 over))
    (λ i. record {
      total = sym pre.0 i;
      providers = (rw (pre.1.0, pre.1.1) at (walk-number (block_end s) (block_up s) _ _ _ _ _ inv.0 over)) i;
      provider_at = (rw (pre.1.0, pre.1.1) at (place_end (block_end s) (block_up s) _ _ _ _ _ _ inv.1.0 over)) i;
      authorities = (rw (pre.1.0, pre.1.1) at (told-end (block_end s) (block_up s) _ _ (authority_count s) _ _ _ _ inv.1.1.0 over)) i;
      authority_at = (rw (pre.1.0, pre.1.1) at (told-end (block_end s) (block_up s) _ _ (λ q. authority_place s q args.authority) _ _ _ _ inv.1.1.1 over)) i;
    })
