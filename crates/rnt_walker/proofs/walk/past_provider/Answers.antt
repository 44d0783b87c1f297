use mathlib.Core.Path.{◌≡◌, refl, sym, ◌∙◌}
use native.Mathlib.Omega.{arith}
use Rattle.rnt.proofs.Providers.{HeadPassed, head_passed}
use Rattle.rnt_walker.proofs.Walks.{counted-at, counted-refused, at-passed, refused-passed, provider-stop, provider-on}
use Rattle.rnt_heads.proofs.HeadLaws.{end-told, headed-at, headed-refused}
use borrow.Author.Rules.{rules}
use Rattle.wire.proofs.Verdicts.{handed-on}
use Rattle.rnt_walker.proofs.walk.past_provider.Goals as goal

pub past_authorities-requires : goal.past_authorities-requires
past_authorities-requires c =
    let past_head = c.past_head in
    let args = c.args in
    let g = headed-at _ _ _ _ _ (sym (rw (end-told c.args.s.now c.args.e c.requires.0) at past_head.ensures) ∙ c.in_ok-head.was) in
    let h = head_passed args.s.now _ _ g.fine in
    (omega (arith, g.first, g.end, h.named), (omega (arith, g.end, h.within), omega (arith, g.end, h.within)))

pub returns : goal.returns
returns c =
    let past_head = c.past_head in
    let past-authorities = c.past_authorities in
    let args = c.args in
    let g = headed-at _ _ _ _ _ (sym (rw (end-told c.args.s.now c.args.e c.requires.0) at past_head.ensures) ∙ c.in_ok-head.was) in
    let k = counted-at _ _ _ _ _ (sym (rw (← g.first, ← g.end) at past-authorities.ensures) ∙ c.in_ok-authorities.was) in
    at-passed _ _ _ _ _ _ _ g.end (record { fine = provider-on args.s.now _ _ _ _ g.fine refl refl ∙ k.fine; number = k.number; place = k.place })

pub returns-in_err-authorities : goal.returns-in_err-authorities
returns-in_err-authorities c =
    let past_head = c.past_head in
    let args = c.args in
    let past-authorities = c.past_authorities in
    let g = headed-at _ _ _ _ _ (sym (rw (end-told c.args.s.now c.args.e c.requires.0) at past_head.ensures) ∙ c.in_ok-head.was) in
    handed-on _ _ c.from_residual-in_err-authorities.ensures ∙ refused-passed _ _ _ _ _ (provider-on args.s.now _ _ _ _ g.fine refl refl ∙ counted-refused _ _ _ _ (sym (rw (← g.first, ← g.end) at past-authorities.ensures) ∙ c.in_err-authorities.was))

pub returns-in_err-head : goal.returns-in_err-head
returns-in_err-head c =
    let args = c.args in
    let past_head = c.past_head in
    handed-on _ _ c.from_residual.ensures ∙ refused-passed _ _ _ _ _ (provider-stop args.s.now _ _ _ (headed-refused _ _ _ _ (sym (rw (end-told c.args.s.now c.args.e c.requires.0) at past_head.ensures) ∙ c.in_err-head.was)))
