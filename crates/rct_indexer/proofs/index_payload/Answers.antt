use mathlib.Core.Path.{sym, ◌∙◌}
use native.Mathlib.Omega.{arith}
use Rattle.wire.proofs.Lists.{bytes-known}
use Rattle.wire.proofs.Verdicts.{handed-on}
use Rattle.rct_indexer.proofs.Walks.{walk_start, walk-stops, walk-on, walk-cut, walk-few, walk_ends, refused-built}
use Rattle.rct_indexer.proofs.index_payload.Goals as goal

pub loop-k-init : goal.loop-k-init
loop-k-init c =
    let args = c.args in
    walk_start args.payload.now args.links _ c.none-sets.ensures

pub loop-k-preserved : goal.loop-k-preserved
loop-k-preserved c =
    let args = c.args in
    let wide = c.wide-count in
    let loop = c.loop-k in
    let loop-test = c.loop-k-test in
    let read-entry = c.read_entry in
    let b = bytes-known args.payload.now c.type_inv.payload in
    walk-on args.payload.now args.links b (omega (arith, wide.ensures)) loop.k loop.at loop.sets loop.places loop.invariant (omega (arith, loop-test.true, wide.ensures)) _ _ _ _ (sym read-entry.ensures ∙ c.in_ok-entry.was) (rw c.of.ensures at c.with-sets.ensures)

pub returns-in_err-entry : goal.returns-in_err-entry
returns-in_err-entry c =
    let args = c.args in
    let wide = c.wide-count in
    let loop = c.loop-k in
    let loop-test = c.loop-k-test in
    let read-entry = c.read_entry in
    let b = bytes-known args.payload.now c.type_inv.payload in
    handed-on _ _ c.from_residual.ensures ∙ refused-built _ _ _ (walk-stops args.payload.now args.links b (omega (arith, wide.ensures)) loop.k loop.at loop.sets loop.places loop.invariant (omega (arith, loop-test.true, wide.ensures)) _ (sym read-entry.ensures ∙ c.in_err-entry.was))

pub overflow_cast-result : goal.overflow_cast-result
overflow_cast-result c =
    let pre = c.requires in
    let args = c.args in
    let loop = c.loop-k in
    let loop-test = c.loop-k-test in
    let wide = c.wide-count in
    let count-loop = c.count_loop in
    omega (arith, pre, walk-few args.payload.now args.links loop.k loop.at loop.sets loop.places loop.invariant (omega (arith, loop-test.false, wide.ensures)) _ _ count-loop.ensures c.in_ok-n.was)

pub returns : goal.returns
returns c =
    let args = c.args in
    let loop = c.loop-k in
    let loop-test = c.loop-k-test in
    let wide = c.wide-count in
    let count-loop = c.count_loop in
    walk_ends args.payload.now args.links loop.k loop.at loop.sets loop.places loop.invariant (omega (arith, loop-test.false, wide.ensures)) _ _ count-loop.ensures c.in_ok-n.was

pub returns-in_err-n : goal.returns-in_err-n
returns-in_err-n c =
    let args = c.args in
    let loop = c.loop-k in
    let loop-test = c.loop-k-test in
    let wide = c.wide-count in
    let count-loop = c.count_loop in
    handed-on _ _ c.from_residual-in_err-n.ensures ∙ refused-built _ _ _ (walk-cut args.payload.now args.links loop.k loop.at loop.sets loop.places loop.invariant (omega (arith, loop-test.false, wide.ensures)) _ _ count-loop.ensures c.in_err-n.was)
