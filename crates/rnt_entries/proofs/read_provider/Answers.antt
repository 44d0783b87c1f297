use mathlib.Core.Path.{◌≡◌, sym, ap, ◌∙◌}
use native.Mathlib.Omega.{arith}
use Rattle.length_field.specs.Lengths.{block_end}
use Rattle.length_field.specs.declared.LengthField.{LengthField}
use Rattle.rnt.proofs.Providers.{HeadPassed, head_passed}
use Rattle.rnt_heads.proofs.HeadLaws.{headed-at, headed-refused}
use Rattle.rnt_entries.proofs.EntryLaws.{provider-found, provider-not}
use borrow.Author.Rules.{rules}
use Rattle.wire.proofs.Verdicts.{handed-on}
use Rattle.rnt_entries.proofs.read_provider.Goals as goal

pub bounds-s-p : goal.bounds-s-p
bounds-s-p c =
    let past_head = c.past_head in
    let args = c.args in
    let g = headed-at _ _ _ _ _ (sym past_head.ensures ∙ c.in_ok-head.was) in
    let h = head_passed args.s.now _ _ g.fine in
    omega (arith, h.within, h.named)

pub bounds-s-p-2 : goal.bounds-s-p-2
bounds-s-p-2 c =
    let past_head = c.past_head in
    let args = c.args in
    let g = headed-at _ _ _ _ _ (sym past_head.ensures ∙ c.in_ok-head.was) in
    let h = head_passed args.s.now _ _ g.fine in
    omega (arith, h.within, h.named)

pub named_at-named-requires : goal.named_at-named-requires
named_at-named-requires c =
    let past_head = c.past_head in
    let args = c.args in
    let g = headed-at _ _ _ _ _ (sym past_head.ensures ∙ c.in_ok-head.was) in
    let h = head_passed args.s.now _ _ g.fine in
    omega (arith, h.within, h.named)

pub overflow_cast-result-3 : goal.overflow_cast-result-3
overflow_cast-result-3 c =
    let past_head = c.past_head in
    let args = c.args in
    let fits = c.ranges in
    let g = headed-at _ _ _ _ _ (sym past_head.ensures ∙ c.in_ok-head.was) in
    let h = head_passed args.s.now _ _ g.fine in
    record { fits = omega (arith, fits.end.fits, g.first, h.within, h.named) }

pub overflow_cast-result-4 : goal.overflow_cast-result-4
overflow_cast-result-4 c =
    let past_head = c.past_head in
    let args = c.args in
    let fits = c.ranges in
    let g = headed-at _ _ _ _ _ (sym past_head.ensures ∙ c.in_ok-head.was) in
    let h = head_passed args.s.now _ _ g.fine in
    record { fits = omega (arith, fits.end.fits, g.end, h.within) }

pub returns : goal.returns
returns c =
    let past_head = c.past_head in
    let named-at = c.named_at-named in
    let of-bytes = c.of_bytes-field in
    let args = c.args in
    let g = headed-at _ _ _ _ _ (sym past_head.ensures ∙ c.in_ok-head.was) in
    rw (named-at.ensures, of-bytes.ensures, ← g.first, ← g.end) (provider-found args.s.now args.end args.at g.fine)

pub returns-in_err-head : goal.returns-in_err-head
returns-in_err-head c =
    let args = c.args in
    let past_head = c.past_head in
    handed-on _ _ c.from_residual.ensures ∙ provider-not args.s.now args.end args.at _ (headed-refused _ _ _ _ (sym past_head.ensures ∙ c.in_err-head.was))
