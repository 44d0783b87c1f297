use Prim.Native.Nat.{◌-◌}
use mathlib.Core.Path.{◌≡◌, refl, sym, ◌∙◌}
use native.Mathlib.Omega.{arith}
use Rattle.wire.proofs.Verdicts.{reached-at, reached-refused, handed-on}
use Rattle.wire.specs.Runs.{places_to}
use Rattle.rnt.specs.Reading.{named_end, authority_verdict}
use Rattle.rnt.proofs.Names.{named-up, named-passed}
use Rattle.rnt_heads.proofs.HeadLaws.{end-told}
use Rattle.rnt_walker.proofs.Walks.{at-counted, refused-counted, Sought, sought-start, Walking, walk_start, walk-on, walk-stop, walk_fine, walk-number, place-on, place_end}
use borrow.Author.Rules.{rules}
use Rattle.rnt_walker.proofs.walk.past_authorities.Goals as goal

pub loop-p-init : goal.loop-p-init
loop-p-init c = (walk_start _ _ _ _ _ c.requires.0, sought-start _ _)

pub overflow_add-i : goal.overflow_add-i
overflow_add-i c =
    let loop = c.loop-p in
    omega (arith, loop.invariant.0.few, loop.invariant.0.within)

pub loop-p-smaller : goal.loop-p-smaller
loop-p-smaller c =
    let past-authority = c.past_authority in
    let g = reached-at _ _ _ (sym (rw (end-told c.args.s.now c.args.e c.requires.1.0) at past-authority.ensures) ∙ c.in_ok-next.was) in
    omega (arith, g.1)

pub loop-p-preserved : goal.loop-p-preserved
loop-p-preserved c =
    let args = c.args in
    let past-authority = c.past_authority in
    let loop = c.loop-p in
    let loop-test = c.loop-p-test in
    let s = args.s.now in
    let g = reached-at _ _ _ (sym (rw (end-told c.args.s.now c.args.e c.requires.1.0) at past-authority.ensures) ∙ c.in_ok-next.was) in
    let w = named-passed _ _ s _ _ g.0 in
    (walk-on (named_end s) (named-up s) _ _ _ _ _ _ loop.invariant.0 loop-test.true g.0 g.1 (omega (arith, g.1)), rw c.found_at-place.ensures (place-on (named_end s) (named-up s) _ _ _ _ _ _ _ loop.invariant.1 loop-test.true g.1))

pub returns-in_err-next : goal.returns-in_err-next
returns-in_err-next c =
    let args = c.args in
    let loop = c.loop-p in
    let loop-test = c.loop-p-test in
    let past-authority = c.past_authority in
    let s = args.s.now in
    handed-on _ _ c.from_residual.ensures ∙ refused-counted _ _ _ _ (walk-stop (named_end s) (named-up s) _ _ _ _ _ _ loop.invariant.0 loop-test.true (reached-refused _ _ _ (sym (rw (end-told c.args.s.now c.args.e c.requires.1.0) at past-authority.ensures) ∙ c.in_err-next.was)))

pub returns : goal.returns
returns c =
    let args = c.args in
    let s = args.s.now in
    let w = c.loop-p.invariant.0 in
    at-counted _ _ _ _ _ (record { fine = walk_fine (named_end s) (named-up s) _ _ _ _ _ w c.loop-p-test.false; number = walk-number (named_end s) (named-up s) _ _ _ _ _ w c.loop-p-test.false; place = place_end (named_end s) (named-up s) _ _ _ _ _ _ c.loop-p.invariant.1 c.loop-p-test.false })
