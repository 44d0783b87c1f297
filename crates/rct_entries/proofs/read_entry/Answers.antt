use mathlib.Core.Path.{sym, ◌∙◌}
use Rattle.wire.proofs.Verdicts.{reached-refused, handed-on}
use Rattle.rct_blocks.proofs.Entries.{length-passed, entry-stop}
use Rattle.rct_entries.proofs.EntryLaws.{entry-refused, entry_read_lem, entry-not}
use borrow.Author.Rules.{rules}
use Rattle.rct_entries.proofs.read_entry.Goals as goal

pub bounds-payload-p : goal.bounds-payload-p
bounds-payload-p c =
    let args = c.args in
    let past = c.past_entry_length in
    let k = length-passed args.payload.now _ args.at _ (sym past.ensures ∙ c.in_ok-next.was) in
    search rules

pub bounds-payload-p-2 : goal.bounds-payload-p-2
bounds-payload-p-2 c =
    let args = c.args in
    let past = c.past_entry_length in
    let k = length-passed args.payload.now _ args.at _ (sym past.ensures ∙ c.in_ok-next.was) in
    search rules

pub slice_bounds-read_fields-count : goal.slice_bounds-read_fields-count
slice_bounds-read_fields-count c =
    let args = c.args in
    let past = c.past_entry_length in
    let k = length-passed args.payload.now _ args.at _ (sym past.ensures ∙ c.in_ok-next.was) in
    search rules

pub overflow_cast-start : goal.overflow_cast-start
overflow_cast-start c =
    let args = c.args in
    let past = c.past_entry_length in
    let k = length-passed args.payload.now _ args.at _ (sym past.ensures ∙ c.in_ok-next.was) in
    search rules

pub overflow_cast-result : goal.overflow_cast-result
overflow_cast-result c =
    let args = c.args in
    let past = c.past_entry_length in
    let k = length-passed args.payload.now _ args.at _ (sym past.ensures ∙ c.in_ok-next.was) in
    search rules

pub returns : goal.returns
returns c =
    let args = c.args in
    let past = c.past_entry_length in
    let of-bytes = c.of_bytes-field in
    let read-fields = c.read_fields in
    let s = args.payload.now in
    let k = length-passed s _ args.at _ (sym past.ensures ∙ c.in_ok-next.was) in
    entry_read_lem s args.at _ k _ (rw of-bytes.ensures at read-fields.ensures) _ _ c.in_ok-link.was

pub returns-in_err-link : goal.returns-in_err-link
returns-in_err-link c =
    let args = c.args in
    let past = c.past_entry_length in
    let of-bytes = c.of_bytes-field in
    let read-fields = c.read_fields in
    let s = args.payload.now in
    let k = length-passed s _ args.at _ (sym past.ensures ∙ c.in_ok-next.was) in
    handed-on _ _ c.from_residual-in_err-link.ensures ∙ entry-not s args.at _ k _ (rw of-bytes.ensures at read-fields.ensures) _ c.in_err-link.was

pub returns-in_err-next : goal.returns-in_err-next
returns-in_err-next c =
    let args = c.args in
    let past = c.past_entry_length in
    let s = args.payload.now in
    handed-on _ _ c.from_residual.ensures ∙ entry-refused s args.at _ (entry-stop s _ args.at _ (reached-refused _ _ _ (sym past.ensures ∙ c.in_err-next.was)))

pub slice_bounds-read_fields-start : goal.slice_bounds-read_fields-start
slice_bounds-read_fields-start c =
    let args = c.args in
    let past = c.past_entry_length in
    let k = length-passed args.payload.now _ args.at _ (sym past.ensures ∙ c.in_ok-next.was) in
    search rules

pub slice_bounds-read_fields-end : goal.slice_bounds-read_fields-end
slice_bounds-read_fields-end c =
    let args = c.args in
    let past = c.past_entry_length in
    let k = length-passed args.payload.now _ args.at _ (sym past.ensures ∙ c.in_ok-next.was) in
    search rules
