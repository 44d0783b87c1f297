-- The outcome of a link between two places, verdict by verdict.
-- Assumes nothing.
use Prim.Native.Nat.{ℕ, ◌+◌}
use mathlib.Core.Path.{◌≡◌, sym, ap, ◌∙◌}
use mathlib.Core.List.{List}
use lib.ListN.{length}
use Rattle.frame.specs.Syntax.{uncounted}
use Rattle.wire.specs.declared.verdict.Refusal.{Refusal}
use Rattle.wire.proofs.Verdicts.{go_on, refused-then}
use Rattle.link.specs.declared.LinkInfo.{LinkInfo}
use Rattle.link_draft.specs.Checks.{check_link}
use Rattle.link_draft.specs.Lengths.{link_length}
use Rattle.rct_edit.specs.Edit.{room_rows}
use Rattle.rct_edit.proofs.Outcomes.{Came, done-stops, done-goes, room-passed}
use Rattle.rct_editor.specs.Splicing.{length_between, between_verdict, between_bytes, between, Fitting}
use Rattle.std.specs.Prelude.{Err, Ok, Result}
use Rattle.wire.specs.Verdict.{Fine}

module _ (xs : List ℕ) (p q count : ℕ) (t : List ℕ) (k : LinkInfo) where
  pub between-own : (r : Refusal) (e : Result ℕ Refusal) → check_link t k ≡ Err r → e ≡ Err r → Came (between xs p q count t k) e xs
  unfolding between between_verdict
  between-own r e c a = done-stops _ _ _ xs r e (refused-then (check_link t k) _ r c) a

  -- section_length as the code has it
  module _ (c : check_link t k ≡ Fine) (len : ℕ) (is : len ≡ length_between xs p q (link_length k)) where
    rows : room_rows (length xs) len ≡ room_rows (length xs) (length_between xs p q (link_length k))
    rows = ap (room_rows (length xs)) is

    pub between-room : (r : Refusal) (e : Result ℕ Refusal) → room_rows (length xs) len ≡ Err r → e ≡ Err r → Came (between xs p q count t k) e xs
    unfolding between between_verdict
    between-room r e w a = done-stops _ _ _ xs r e (go_on (check_link t k) _ c ∙ sym rows ∙ w) a

    pub between_done : (ys : List ℕ) (total : ℕ) (e : Result ℕ Refusal) → room_rows (length xs) len ≡ Fine → ys ≡ between_bytes xs p q count t k → total ≡ uncounted + len → e ≡ Ok total
        → Came (between xs p q count t k) e ys
    unfolding between between_verdict
    between_done ys total e w b et a = done-goes _ _ _ xs total ys e (go_on (check_link t k) _ c ∙ sym rows ∙ w) (et ∙ ap (λ n. uncounted + n) is) b a

    pub fitting : room_rows (length xs) len ≡ Fine → Fitting xs p q t k len
    fitting w =
        let r = room-passed (length xs) len w in
        record { fine = c; is = is; fit = r.fit; enough = r.enough }
