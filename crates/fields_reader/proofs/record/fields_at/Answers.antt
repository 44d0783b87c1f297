use Rattle.fields_reader.proofs.Fields.{fields_made}
use native.Mathlib.Omega.{arith}
use Rattle.fields_reader.proofs.record.fields_at.Goals as goal

pub bounds-s-0 : goal.bounds-s-0
bounds-s-0 c =
    let pre = c.requires in
    let h = pre.0.headed in
    omega arith

pub bounds-s-1 : goal.bounds-s-1
bounds-s-1 c =
    let pre = c.requires in
    let h = pre.0.headed in
    omega arith

pub bounds-s-2 : goal.bounds-s-2
bounds-s-2 c =
    let pre = c.requires in
    let h = pre.0.headed in
    omega arith

pub bounds-s-3 : goal.bounds-s-3
bounds-s-3 c =
    let pre = c.requires in
    let h = pre.0.headed in
    omega arith

pub head_of-head-requires : goal.head_of-head-requires
head_of-head-requires c = tt

pub bounds-s-count_at : goal.bounds-s-count_at
bounds-s-count_at c =
    let pre = c.requires in
    pre.0.counts

pub tail_at-end-requires : goal.tail_at-end-requires
tail_at-end-requires c =
    let pre = c.requires in
    (pre.0.ends, pre.0.near)

pub uri_to-requires : goal.uri_to-requires
uri_to-requires c =
    let pre = c.requires in
    pre.0.short

pub overflow_cast-count : goal.overflow_cast-count
overflow_cast-count c =
    let args = c.args in
    let bytes = c.type_inv.s in
    omega (arith, bytes args.count_at)

pub low-requires : goal.low-requires
low-requires c = tt

pub overflow_cast-count-2 : goal.overflow_cast-count-2
overflow_cast-count-2 c =
    let args = c.args in
    let bytes = c.type_inv.s in
    omega (arith, bytes args.count_at)

pub low-requires-2 : goal.low-requires-2
low-requires-2 c = tt

pub overflow_cast-result : goal.overflow_cast-result
overflow_cast-result c = omega arith

pub returns : goal.returns
returns c =
    let args = c.args in
    let pre = c.requires in
    let head_of = c.head_of-head in
    let tail_at = c.tail_at-end in
    let uri-to = c.uri_to in
    fields_made args.base args.reserved args.s.now _ _ _ pre.0 _ head_of.ensures _ tail_at.ensures _ uri-to.ensures _ pre.1 _ c.low.ensures _ c.low-2.ensures
