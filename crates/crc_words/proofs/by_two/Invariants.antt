use Prim.Native.Nat.{◌+◌, ◌-◌, ◌%◌, ◌≤◌}
use mathlib.Core.Path.{◌≡◌, refl, sym, ◌∙◌}
use native.Mathlib.Omega.{arith}
use lib.ListN.{length}
use borrow.Author.Rules.{rules}
use Rattle.wire.proofs.Lists.{bytes-known}
use Rattle.crc_words.specs.Words.{due_word}
use Rattle.crc_words.proofs.Steps.{last-read}
use Rattle.crc_words.proofs.by_two.Given as goal

abbrev pub invariant-loop-m : goal.invariant-loop-m
invariant-loop-m l = (l.m.at + 8 ≤ length l.s) × ((length l.s - l.m.at) % 8 ≡ 0) × (due_word l.s l.m ≡ due_word l.s l.initial.m)

abbrev pub decreases-loop-m : goal.decreases-loop-m
decreases-loop-m l = length l.s - l.m.at
