-- That the plain reading takes what the checked one does, what an accepted section leaves known of its loop, and what a reading answers, taken apart.
-- Assumes nothing.
use Prim.Native.Nat.{ℕ, ◌+◌, ◌≤◌}
use mathlib.Core.Path.{◌≡◌, refl, sym}
use native.Mathlib.Omega.{arith}
use mathlib.Core.List.{List}
use lib.ListN.{length}
use Rattle.wire.specs.Lists.{Bytes}
use Rattle.length_field.proofs.Blocks.{length-short}
use Rattle.frame.specs.Syntax.{longest_payload}
use Rattle.frame.specs.Reading.{plain_demands}
use Rattle.rct.specs.Syntax.{head_length}
use Rattle.rct.specs.Reading.{loop_place, plain, checked}
use Rattle.rct.proofs.Accepted.{accepted}
use Rattle.rct.proofs.Checked.{checked-iff}
use Rattle.rct_walker.specs.Places.{loop_found}
use Rattle.rct_walker.specs.declared.RctLoop.{RctLoop}
use Rattle.rct_walker.proofs.Loops.{loop-had, had-loop}
use Rattle.rct_reader.specs.Sections.{section_info, section_read}
use Rattle.rct_reader.specs.declared.RctSection.{RctSection}
use Rattle.std.specs.Prelude.{Err, Ok}
use Rattle.wire.specs.Verdict.{Fine, Verdict}
use Rattle.wire.specs.declared.verdict.Refusal.{Refusal}
use Rattle.wire.proofs.Verdicts.{ok-same}

pub checked-plain : (xs : List ℕ) → checked xs ≡ Fine → plain xs ≡ Fine
checked-plain xs v = ((checked-iff xs).0 v).plainly

pub record LoopKnown (xs : List ℕ) : Type 0 where
  pub head : head_length ≤ length xs
  pub within : loop_place xs + 2 ≤ length xs
  pub short : loop_place xs ≤ longest_payload

pub loop-known : (xs : List ℕ) → Bytes xs → plain xs ≡ Fine → LoopKnown xs
loop-known xs b v =
    let a = accepted plain_demands xs b v in
    let n = length-short xs 1 b in
    record { head = omega (arith, a.frame.large, a.frame.within); within = omega (arith, a.loop_end, a.frame.within); short = omega (arith, a.loop_end, a.frame.large) }

-- where the checked walk finds the loop, the plain one does
pub checked-loop-plain : (xs : List ℕ) (f : RctLoop) → loop_found (checked xs) xs ≡ Ok f → loop_found (plain xs) xs ≡ Ok f
checked-loop-plain xs f e =
    let g = loop-had _ _ _ _ _ e in
    sym (had-loop (plain xs) xs _ _ _ (record { fine = checked-plain xs g.fine; total = g.total; count = g.count; place = g.place }))

-- ---- what a reading answers, made and taken apart

pub fine-read : (v : Verdict) (xs : List ℕ) → v ≡ Fine → section_read v xs ≡ Ok (section_info xs)
unfolding section_read
fine-read v xs e = rw e

pub section-refused : (v : Verdict) (xs : List ℕ) (r : Refusal) → v ≡ Err r → section_read v xs ≡ Err r
unfolding section_read
section-refused v xs r e = rw e

pub read-fine : (v : Verdict) (xs : List ℕ) (s : RctSection) → section_read v xs ≡ Ok s → (v ≡ Fine) × (section_info xs ≡ s)
unfolding section_read
read-fine (Ok _) xs s e = (refl, ok-same _ _ e)
read-fine (Err r) xs s e = let z : ◌≡◌ {A = ℕ} 0 1 = cc in absurd (omega arith)

pub read-refused : (v : Verdict) (xs : List ℕ) (r : Refusal) → section_read v xs ≡ Err r → v ≡ Err r
unfolding section_read
read-refused (Ok _) xs r e = let z : ◌≡◌ {A = ℕ} 0 1 = cc in absurd (omega arith)
read-refused (Err q) xs r e = cc
