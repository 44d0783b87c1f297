use Prim.Native.Nat.{◌+◌, ◌-◌, ◌%◌, ◌≤◌}
use mathlib.Core.Path.{◌≡◌, refl, sym, ◌∙◌}
use native.Mathlib.Omega.{arith}
use lib.ListN.{length}
use borrow.Author.Rules.{rules}
use Rattle.wire.proofs.Lists.{bytes-known}
use Rattle.crc_words.specs.Words.{due_word}
use Rattle.crc_words.proofs.Steps.{last-read}
use Rattle.crc_words.proofs.by_two.Goals as goal

pub loop-m-init : goal.loop-m-init
loop-m-init c = (search rules, search rules, refl)

pub loop-m-preserved : goal.loop-m-preserved
loop-m-preserved c =
    let l = c.loop-m in
    (search rules, search rules, c.read_on-m.ensures.1 ∙ l.invariant.2)

pub returns : goal.returns
returns c =
    let l = c.loop-m in
    let s = c.args.s.now in
    let m = c.struct_known-1.given in
    c.fold_last.ensures
    ∙ sym (last-read s (bytes-known s c.type_inv.s) l.m.at c.word_at.ensures (omega arith)
    (omega (arith, m)) (omega (arith, m)) (search rules))
    ∙ l.invariant.2
