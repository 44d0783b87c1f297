use mathlib.Core.Path.{sym, ◌∙◌}
use Rattle.wire.proofs.Verdicts.{at-reached, refused-reached, reached-refused, handed-on}
use Rattle.rct_blocks.proofs.Entries.{length-passed, entry-stop}
use Rattle.rct_walker.proofs.Walks.{entry-said}
use borrow.Author.Rules.{rules}
use Rattle.rct_walker.proofs.walk.past_entry.Goals as goal

pub slice_bounds-check_body-count : goal.slice_bounds-check_body-count
slice_bounds-check_body-count c =
    let args = c.args in
    let past = c.past_entry_length in
    let k = length-passed args.payload.now _ args.at _ (sym past.ensures ∙ c.in_ok-next.was) in
    search rules

pub returns : goal.returns
returns c =
    let args = c.args in
    let past = c.past_entry_length in
    let check-body = c.check_body in
    let k = length-passed args.payload.now _ args.at _ (sym past.ensures ∙ c.in_ok-next.was) in
    at-reached _ _ _ (sym (entry-said args.payload.now _ _ _ _ k check-body.ensures) ∙ c.in_ok-check_body.was) k.place

pub returns-in_err-check_body : goal.returns-in_err-check_body
returns-in_err-check_body c =
    let args = c.args in
    let past = c.past_entry_length in
    let check-body = c.check_body in
    let k = length-passed args.payload.now _ args.at _ (sym past.ensures ∙ c.in_ok-next.was) in
    handed-on _ _ c.from_residual-in_err-check_body.ensures ∙ refused-reached _ _ _ (sym (entry-said args.payload.now _ _ _ _ k check-body.ensures) ∙ c.in_err-check_body.was)

pub returns-in_err-next : goal.returns-in_err-next
returns-in_err-next c =
    let args = c.args in
    let past = c.past_entry_length in
    handed-on _ _ c.from_residual.ensures ∙ refused-reached _ _ _ (entry-stop args.payload.now _ _ _ (reached-refused _ _ _ (sym past.ensures ∙ c.in_err-next.was)))

pub slice_bounds-check_body-start : goal.slice_bounds-check_body-start
slice_bounds-check_body-start c =
    let args = c.args in
    let past = c.past_entry_length in
    let k = length-passed args.payload.now _ args.at _ (sym past.ensures ∙ c.in_ok-next.was) in
    search rules

pub slice_bounds-check_body-end : goal.slice_bounds-check_body-end
slice_bounds-check_body-end c =
    let args = c.args in
    let past = c.past_entry_length in
    let k = length-passed args.payload.now _ args.at _ (sym past.ensures ∙ c.in_ok-next.was) in
    search rules
