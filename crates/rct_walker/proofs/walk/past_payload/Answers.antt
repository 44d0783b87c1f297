use Prim.Native.Nat.{◌+◌}
use mathlib.Core.Path.{sym, ◌∙◌}
use native.Mathlib.Omega.{arith}
use Rattle.wire.proofs.Verdicts.{reached-at, reached-refused, handed-on}
use Rattle.rct.specs.Syntax.{head_length}
use Rattle.rct_blocks.specs.Ends.{end_of}
use Rattle.rct_walker.proofs.Walks.{spanned-at, spanned-refused, read-walked, refused-walked, links-within, payload-stop, payload-rest, loop-place, left_over, span-is}
use Rattle.rct_walker.proofs.walk.past_payload.Goals as goal

pub overflow_sub-count : goal.overflow_sub-count
overflow_sub-count c = omega (arith, c.smaller-before.ensures)

pub overflow_cast-link : goal.overflow_cast-link
overflow_cast-link c =
    let smaller = c.smaller-before in
    let smaller2 = c.smaller-own in
    let ys = c.args.payload.now in
    let g = spanned-at _ _ _ _ _ (sym c.past_link.ensures ∙ c.in_ok-link.was) in
    let w = links-within (smaller.result + smaller2.result) ys (end_of ys) head_length (omega arith) g.fine in
    omega (arith, w, g.end)

pub overflow_sub-count-2 : goal.overflow_sub-count-2
overflow_sub-count-2 c = omega (arith, c.smaller-before.ensures)

pub overflow_sub-count-3 : goal.overflow_sub-count-3
overflow_sub-count-3 c = omega (arith, c.smaller-before.ensures, c.smaller-own.ensures)

pub past_rest-requires : goal.past_rest-requires
past_rest-requires c =
    let smaller = c.smaller-before in
    let smaller2 = c.smaller-own in
    let ys = c.args.payload.now in
    let g = spanned-at _ _ _ _ _ (sym c.past_link.ensures ∙ c.in_ok-link.was) in
    let w = links-within (smaller.result + smaller2.result) ys (end_of ys) head_length (omega arith) g.fine in
    omega (arith, w, g.end)

pub returns : goal.returns
returns c =
    let args = c.args in
    let wide = c.wide-count in
    let smaller = c.smaller-before in
    let smaller2 = c.smaller-own in
    let past-rest = c.past_rest in
    let ys = args.payload.now in
    let is = left_over args.number wide.result smaller.result smaller2.result smaller.ensures smaller2.ensures ∙ wide.ensures.0 in
    let g = spanned-at _ _ _ _ _ (sym c.past_link.ensures ∙ c.in_ok-link.was) in
    let k = reached-at _ _ _ (sym (rw (← g.end) at past-rest.ensures) ∙ c.in_ok-loop_at.was) in
    let span = c.link_span.ensures ∙ span-is ys args.number _ _ _ _ _ wide.ensures.0 smaller.ensures smaller2.ensures g.start g.end in
    read-walked _ _ _ (payload-rest ys (end_of ys) (smaller.result + smaller2.result) _ is g.fine ∙ k.0) (λ i. record { total = args.total; link = sym span i; count = sym wide.ensures.0 i; loop_at = (sym (loop-place ys (end_of ys) (smaller.result + smaller2.result) _ is) ∙ k.1) i })

pub returns-in_err-loop_at : goal.returns-in_err-loop_at
returns-in_err-loop_at c =
    let args = c.args in
    let wide = c.wide-count in
    let smaller = c.smaller-before in
    let smaller2 = c.smaller-own in
    let past-rest = c.past_rest in
    let ys = args.payload.now in
    let is = left_over args.number wide.result smaller.result smaller2.result smaller.ensures smaller2.ensures ∙ wide.ensures.0 in
    let g = spanned-at _ _ _ _ _ (sym c.past_link.ensures ∙ c.in_ok-link.was) in
    handed-on _ _ c.from_residual-in_err-loop_at.ensures ∙ refused-walked _ _ _ (payload-rest ys (end_of ys) (smaller.result + smaller2.result) _ is g.fine ∙ reached-refused _ _ _ (sym (rw (← g.end) at past-rest.ensures) ∙ c.in_err-loop_at.was))

pub returns-in_err-link : goal.returns-in_err-link
returns-in_err-link c =
    let args = c.args in
    let wide = c.wide-count in
    let smaller = c.smaller-before in
    let smaller2 = c.smaller-own in
    let ys = args.payload.now in
    let is = left_over args.number wide.result smaller.result smaller2.result smaller.ensures smaller2.ensures ∙ wide.ensures.0 in
    handed-on _ _ c.from_residual.ensures ∙ refused-walked _ _ _ (payload-stop ys (end_of ys) (smaller.result + smaller2.result) _ is _ (spanned-refused _ _ _ _ (sym c.past_link.ensures ∙ c.in_err-link.was)))
