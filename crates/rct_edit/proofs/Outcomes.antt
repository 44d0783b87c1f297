-- A call's outcome, verdict by verdict: where a row refuses, and where all are passed.
-- Assumes nothing.
use Prim.Native.Nat.{ℕ, ◌+◌, ◌≤◌}
use mathlib.Core.Path.{◌≡◌, refl, ap, ◌∙◌}
use mathlib.Core.List.{List}
use Rattle.wire.specs.declared.verdict.Refusal.{Refusal}
use Rattle.wire.proofs.Verdicts.{then-fine, fine-then, passed-ltb, pass-ltb}
use Rattle.frame.specs.Syntax.{limit, uncounted}
use Rattle.rct_edit.specs.Edit.{length_row, room_rows, Outcome, done}
use Rattle.rct_edit.specs.Answers.{answer}
use Rattle.std.specs.Prelude.{Err, Ok, Result}
use Rattle.wire.specs.Verdict.{reached, Fine, Verdict}

-- the answer e and the buffer ys are those of o
abbrev pub Came : Outcome → Result ℕ Refusal → List ℕ → Type 0
Came o e ys = (e ≡ answer o) × (ys ≡ o.buffer)

module _ (v : Verdict) (n : ℕ) (new old : List ℕ) where
  pub done-stops : (r : Refusal) (e : Result ℕ Refusal) → v ≡ Err r → e ≡ Err r → Came (done v n new old) e old
  unfolding done reached
  done-stops r e w a = rw w (a, refl)

  pub done-goes : (m : ℕ) (ys : List ℕ) (e : Result ℕ Refusal) → v ≡ Fine → m ≡ n → ys ≡ new → e ≡ Ok m → Came (done v n new old) e ys
  unfolding done reached
  done-goes m ys e w s b a = rw w (a ∙ ap Ok s, b)

-- what an answer has of a total: its own, or 0 beside a refusal
abbrev pub total_got : Result ℕ Refusal → ℕ
total_got (Ok n) = n
total_got (Err r) = 0

-- that is the outcome's
pub done-total : (v : Verdict) (n : ℕ) (new old : List ℕ) → total_got (answer (done v n new old)) ≡ (done v n new old).total
unfolding done reached
done-total (Ok _) n new old = refl
done-total (Err r) n new old = refl

-- ---- the room

pub record Roomy (room len : ℕ) : Type 0 where
  pub fit : len ≤ limit
  pub enough : uncounted + len ≤ room

pub room-passed : (room len : ℕ) → room_rows room len ≡ Fine → Roomy room len
unfolding room_rows
room-passed room len e =
    let two = then-fine (length_row len) _ e in
    record { fit = passed-ltb _ _ _ _ _ two.0; enough = passed-ltb _ _ _ _ _ two.1 }

pub room-pass : (room len : ℕ) → Roomy room len → room_rows room len ≡ Fine
unfolding room_rows
room-pass room len r = fine-then (length_row len) _ (pass-ltb _ _ _ _ _ r.fit) (pass-ltb _ _ _ _ _ r.enough)
