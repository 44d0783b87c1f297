use Prim.Native.Nat.{ℕ, ◌+◌, ◌≤◌}
use mathlib.Core.Path.{ap}
use native.Mathlib.Omega.{arith}
use Rattle.link.specs.Syntax.{head_length, count_length}
use Rattle.link_draft.specs.Checks.{check_end}
use Rattle.link_checker.specs.Stages.{uri_checked, locator_checked, fields_checked, all_checked}
use Rattle.link_checker.specs.declared.RangesChecked.{RangesChecked}
use Rattle.link_checker.proofs.Texts.{answer-of}
use borrow.Author.Rules.{rules}
use Rattle.link_checker.proofs.check_all.Goals as goal

-- `check_all` meets its contract. Assumes nothing.
abbrev size : RangesChecked → ℕ
size a = a.length

pub joined-ranges-requires : goal.joined-ranges-requires
joined-ranges-requires c =
    let uri = c.check_uri-uri.ensures.1 in
    let texts = c.requires in
    omega (arith, ap size c.joined.ensures, c.check_ranged-descriptors.ensures.1, uri, texts)

pub overflow_add-result-2 : goal.overflow_add-result-2
overflow_add-result-2 c =
    let locator = c.check_locator-locator in
    let uri = c.check_uri-uri.ensures.1 in
    let descriptors = c.check_ranged-descriptors.ensures.1 in
    let behind = c.joined.ensures in
    let ranges = c.joined-ranges in
    let texts = c.requires in
    let few : head_length + locator.result.length + count_length + ranges.result.length ≤ 0x100_0000_0000 = omega (arith, ap size ranges.ensures, ap size behind, uri, descriptors, locator.ensures.1, texts) in
    record { fits = omega arith }

pub returns : goal.returns
unfolding uri_checked locator_checked fields_checked check_end all_checked
returns c =
    let first-of3 = c.first_of-3 in
    let uri = c.check_uri-uri.ensures.0 in
    let locator = c.check_locator-locator.ensures.0 in
    let descriptors = c.check_ranged-descriptors.ensures.0 in
    let behind = c.joined.ensures in
    let ranges = c.joined-ranges.ensures in
    let presence = c.check_presence-presence.ensures in
    let narrow = c.check_fields-narrow.ensures in
    let last = c.first_of.ensures in
    let second = c.first_of-2.ensures in
    answer-of _ _ _ (rw (first-of3.ensures, second, last, narrow, presence, ranges, behind, descriptors, locator, uri)) (rw (ranges, behind, descriptors, locator, uri) (omega arith))
