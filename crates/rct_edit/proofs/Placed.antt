-- What an edit answers to whoever keeps places of the section, and the edit's own answer: each tells the other.
-- Assumes nothing.
use Prim.Native.Nat.{ℕ}
use mathlib.Core.Path.{◌≡◌, refl, ap, ◌∙◌}
use mathlib.Core.List.{List}
use native.Mathlib.Omega.{arith}
use Rattle.wire.specs.declared.verdict.Refusal.{Refusal}
use Rattle.link.specs.declared.LinkInfo.{LinkInfo}
use Rattle.rct_edit.specs.Edit.{Outcome, done, replaced, appended}
use Rattle.rct_edit.specs.Answers.{answer}
use Rattle.edit_answers.specs.Answers.{spliced_by, edited_by, spliced_at}
use Rattle.rct_edit.specs.Calls.{appending, replacing, appending_placed, replacing_placed}
use Rattle.rct_edit.proofs.Outcomes.{Came}
use Rattle.edit_answers.specs.declared.Spliced.{Spliced}
use Rattle.std.specs.Prelude.{Err, Ok, Result}
use Rattle.wire.specs.Verdict.{reached, Fine, Verdict}
use Rattle.wire.proofs.Verdicts.{ok-same}

-- ---- from the edit's answer e and the buffer ys

module _ (o : Outcome) (ys : List ℕ) (b c a : ℕ) where
  pub refused-placed : (r : Refusal) → Came o (Err r) ys → (Err r ≡ spliced_by (answer o) b c a) × (ys ≡ o.buffer)
  unfolding spliced_by
  refused-placed r k = (ap (λ (e : Result ℕ Refusal). spliced_by e b c a) k.0, k.1)

  -- with the numbers as the code has them
  pub came-placed : (e : Result ℕ Refusal) (p : Result Spliced Refusal) (b' c' a' : ℕ) → Came o e ys → p ≡ spliced_by e b' c' a' → b' ≡ b → c' ≡ c → a' ≡ a
      → (p ≡ spliced_by (answer o) b c a) × (ys ≡ o.buffer)
  came-placed e p b' c' a' k is eb ec ea = (is ∙ (λ i. spliced_by (k.0 i) (eb i) (ec i) (ea i)), k.1)

-- ---- and back

done-edited : (v : Verdict) (n : ℕ) (new old : List ℕ) (b c a : ℕ) → edited_by (spliced_by (answer (done v n new old)) b c a) ≡ answer (done v n new old)
unfolding done reached spliced_by edited_by
done-edited (Ok _) n new old b c a = refl
done-edited (Err r) n new old b c a = refl

pub appending-edited : (xs t : List ℕ) (i : LinkInfo) → edited_by (appending_placed xs t i) ≡ answer (appending xs t i)
unfolding appending_placed appending appended
appending-edited xs t i = done-edited _ _ _ xs _ _ _

pub replacing-edited : (xs : List ℕ) (k : ℕ) (t : List ℕ) (i : LinkInfo) → edited_by (replacing_placed xs k t i) ≡ answer (replacing xs k t i)
unfolding replacing_placed replacing replaced
replacing-edited xs k t i = done-edited _ _ _ xs _ _ _

-- ---- taken apart

pub record PlacedIs (o : Outcome) (b c a n b' c' a' : ℕ) : Type 0 where
  pub fine : o.verdict ≡ Fine
  pub total : o.total ≡ n
  pub before : b ≡ b'
  pub count : c ≡ c'
  pub at : a ≡ a'

pub placed-done : (o : Outcome) (b c a n b' c' a' : ℕ) → spliced_by (answer o) b c a ≡ spliced_at n b' c' a' → PlacedIs o b c a n b' c' a'
unfolding reached spliced_by
placed-done o b c a n b' c' a' = by o.verdict refl
  where
    by : (v : Verdict) → o.verdict ≡ v → spliced_by (reached v o.total) b c a ≡ spliced_at n b' c' a' → PlacedIs o b c a n b' c' a'
    by (Ok _) f q =
        let same = ok-same _ _ q in
        record { fine = f; total = ap (λ p. p.total) same; before = ap (λ p. p.before) same; count = ap (λ p. p.count) same; at = ap (λ p. p.at) same }
    by (Err r) f q = let z : ◌≡◌ {A = ℕ} 0 1 = cc in absurd (omega arith)
