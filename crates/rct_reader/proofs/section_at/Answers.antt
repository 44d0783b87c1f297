use Prim.Native.Nat.{◌+◌}
use mathlib.Core.Path.{◌≡◌, ap}
use native.Mathlib.Omega.{arith}
use Rattle.length_field.specs.declared.LengthField.{LengthField}
use Rattle.wire.proofs.Lists.{bytes-known}
use Rattle.rct_walker.proofs.Loops.{loop-had}
use Rattle.rct_reader.proofs.Wholes.{loop-known}
use borrow.Author.Rules.{rules}
use Rattle.rct_reader.proofs.section_at.Goals as goal

pub header_at-header-requires : goal.header_at-header-requires
header_at-header-requires c =
    let args = c.args in
    let s = args.s.now in
    let g = loop-had _ _ _ _ _ c.requires in
    let k = loop-known s (bytes-known s c.type_inv.s) g.fine in
    search rules

pub bounds-s-loop_at : goal.bounds-s-loop_at
bounds-s-loop_at c =
    let args = c.args in
    let s = args.s.now in
    let g = loop-had _ _ _ _ _ c.requires in
    let k = loop-known s (bytes-known s c.type_inv.s) g.fine in
    search rules

pub overflow_add-loop_at : goal.overflow_add-loop_at
overflow_add-loop_at c =
    let args = c.args in
    let s = args.s.now in
    let g = loop-had _ _ _ _ _ c.requires in
    let k = loop-known s (bytes-known s c.type_inv.s) g.fine in
    search rules

pub bounds-s-loop_at-2 : goal.bounds-s-loop_at-2
bounds-s-loop_at-2 c =
    let args = c.args in
    let s = args.s.now in
    let g = loop-had _ _ _ _ _ c.requires in
    let k = loop-known s (bytes-known s c.type_inv.s) g.fine in
    search rules

pub overflow_add-result : goal.overflow_add-result
overflow_add-result c =
    let args = c.args in
    let s = args.s.now in
    let g = loop-had _ _ _ _ _ c.requires in
    let k = loop-known s (bytes-known s c.type_inv.s) g.fine in
    search rules

pub overflow_cast-result-2 : goal.overflow_cast-result-2
overflow_cast-result-2 c =
    let args = c.args in
    let s = args.s.now in
    let g = loop-had _ _ _ _ _ c.requires in
    let k = loop-known s (bytes-known s c.type_inv.s) g.fine in
    search rules

pub overflow_cast-result-3 : goal.overflow_cast-result-3
overflow_cast-result-3 c =
    let of-bytes = c.of_bytes-field in
    let args = c.args in
    omega (arith, ap (λ (f : LengthField). f.length) of-bytes.ensures, c.type_inv.s (args.found.loop_at + 1))

pub returns : goal.returns
returns c =
    let g = loop-had _ _ _ _ _ c.requires in
    rw (c.header_at-header.ensures, c.of_bytes-field.ensures, ← g.total, ← g.count, ← g.place)
