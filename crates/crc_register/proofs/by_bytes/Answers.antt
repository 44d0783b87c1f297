use Prim.Native.Nat.{ℕ, ◌-◌, ◌+◌, ◌≤◌}
use mathlib.Core.Path.{◌≡◌, refl, sym, ap, ◌∙◌}
use native.Mathlib.Omega.{arith}
use lib.ListN.{length, drop}
use borrow.Author.Rules.{rules}
use Rattle.crc.specs.Crc.{clocked, bits_of, crc_of}
use Rattle.crc_register.proofs.Loops.{next-byte, all-bytes}
use Rattle.crc_register.proofs.by_bytes.Goals as goal

pub loop-i-init : goal.loop-i-init
unfolding crc_of
loop-i-init c = (search rules, refl)

pub loop-i-preserved : goal.loop-i-preserved
loop-i-preserved c =
    let s = c.args.s.now in
    let l = c.loop-i in (
      search rules,
      ap (λ (q : ℕ). clocked q (bits_of (drop (l.i + 1) s))) c.clock_byte-r.ensures
          ∙ next-byte s l.i l.r (omega arith) ∙ l.invariant.1,
    )

pub returns : goal.returns
returns c =
    let l = c.loop-i in
    sym (all-bytes _ l.i l.r (omega arith)) ∙ l.invariant.1
