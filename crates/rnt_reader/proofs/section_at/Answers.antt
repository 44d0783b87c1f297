use mathlib.Core.Path.{◌≡◌, ap}
use native.Mathlib.Omega.{arith}
use Rattle.frame.specs.Reading.{plain_demands}
use Rattle.rnt.proofs.Accepted.{accepted}
use borrow.Author.Rules.{rules}
use Rattle.rnt_reader.proofs.section_at.Goals as goal

pub header_at-header-requires : goal.header_at-header-requires
header_at-header-requires c =
    let a = accepted plain_demands c.args.s.now c.requires.1 in
    omega (arith, a.frame.large, a.frame.within)

pub bounds-s-common : goal.bounds-s-common
bounds-s-common c =
    let args = c.args in
    let pre = c.requires in
    let a = accepted plain_demands args.s.now pre.1 in
    omega (arith, a.frame.large, a.frame.within, c.common_at-common.ensures)

pub overflow_add-common : goal.overflow_add-common
overflow_add-common c =
    let args = c.args in
    let pre = c.requires in
    let a = accepted plain_demands args.s.now pre.1 in
    omega (arith, a.frame.large, a.frame.within, c.common_at-common.ensures)

pub bounds-s-common-2 : goal.bounds-s-common-2
bounds-s-common-2 c =
    let args = c.args in
    let pre = c.requires in
    let common-at = c.common_at-common in
    let a = accepted plain_demands args.s.now pre.1 in
    omega (arith, a.frame.large, a.frame.within, common-at.ensures)

pub overflow_add-result : goal.overflow_add-result
overflow_add-result c =
    let args = c.args in
    let pre = c.requires in
    let common-at = c.common_at-common in
    let a = accepted plain_demands args.s.now pre.1 in
    omega (arith, a.frame.large, a.frame.within, common-at.ensures)

pub returns : goal.returns
returns c =
    let header_at = c.header_at-header in
    let common-at = c.common_at-common in
    let pre = c.requires in
    rw (header_at.ensures, c.of_bytes-field.ensures, common-at.ensures, pre.0)
