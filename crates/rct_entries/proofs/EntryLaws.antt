-- What an entry by its place answers, case by case, over plain lists.
-- Assumes nothing.
use mathlib.Core.Path.{◌≡◌, refl, sym, ◌∙◌, ap}
use Prim.Native.Nat.{ℕ, ◌+◌, ◌-◌}
use native.Mathlib.Omega.{arith}
use mathlib.Core.List.{List}
use lib.ListN.{take, drop}
use Rattle.length_field.specs.Lengths.{length_at, beside_at, block_end}
use Rattle.wire.specs.declared.verdict.Refusal.{Refusal}
use Rattle.link.specs.Reading.{items_place}
use Rattle.link.specs.Records.{fields_at}
use Rattle.link.specs.Answers.{fields_read, got_fields}
use Rattle.link.specs.declared.LinkFields.{LinkFields}
use Rattle.link.proofs.Answers.{fields_had, fields-not}
use Rattle.rct.specs.Reading.{body_in, entry_verdict}
use Rattle.rct_blocks.specs.Ends.{end_of}
use Rattle.rct_blocks.proofs.Entries.{Passed, entry-body}
use Rattle.rct_entries.specs.Entries.{entry_answer, entry_read, got_entry}
use Rattle.link.specs.declared.reading.FieldsRead.{FieldsRead}
use Rattle.std.specs.Prelude.{Err, Ok, Result}
use Rattle.wire.specs.Verdict.{Fine, Verdict}
use Rattle.wire.proofs.Verdicts.{ok-same}

module _ (xs : List ℕ) (p : ℕ) where
  pub entry-refused : (r : Refusal) → entry_verdict xs (end_of xs) p ≡ Err r → Err r ≡ entry_read xs p
  unfolding entry_read entry_answer
  entry-refused r v = rw v

  -- what is read of the part from p + 2 to t
  module _ (t : ℕ) (k : Passed xs (end_of xs) p t) (f : Result FieldsRead Refusal) (is : f ≡ fields_read (p + 2) (beside_at xs p) (take (t - (p + 2)) (drop (p + 2) xs))) where
    whole : (g : Result FieldsRead Refusal) → f ≡ g → fields_read (p + 2) (beside_at xs p) (body_in xs p) ≡ g
    whole g e = let d : t - (p + 2) ≡ length_at xs p = omega (arith, k.place) in sym (rw d at is) ∙ e

    pub entry_read_lem : (l : LinkFields) (i : ℕ) → f ≡ got_fields l i → got_entry l i t ≡ entry_read xs p
    unfolding entry_read entry_answer
    entry_read_lem l i e = let h = fields_had _ _ _ l i (whole _ e) in rw (← entry-body xs (end_of xs) p k.fine, h.fine, h.fields, h.place, k.place)

    pub entry-not : (r : Refusal) → f ≡ Err r → Err r ≡ entry_read xs p
    entry-not r e = entry-refused r (sym (entry-body xs (end_of xs) p k.fine) ∙ fields-not _ _ _ r (whole _ e))

-- ---- taken apart

pub record EntryHad (xs : List ℕ) (p : ℕ) (l : LinkFields) (q : ℕ) : Type 0 where
  pub fine : entry_verdict xs (end_of xs) p ≡ Fine
  pub fields : fields_at (p + 2) (beside_at xs p) (body_in xs p) ≡ l
  pub next : block_end xs p ≡ q

pub entry-had : (xs : List ℕ) (p : ℕ) (l : LinkFields) (i q : ℕ) → entry_read xs p ≡ got_entry l i q → EntryHad xs p l q
unfolding entry_read entry_answer
entry-had xs p l i q = by (entry_verdict xs (end_of xs) p) refl
  where
    by : (v : Verdict) → entry_verdict xs (end_of xs) p ≡ v
        → entry_answer v (fields_at (p + 2) (beside_at xs p) (body_in xs p)) (p + 2 + items_place (body_in xs p)) (block_end xs p) ≡ got_entry l i q → EntryHad xs p l q
    by (Ok _) f e = let same = ok-same _ _ e in record { fine = f; fields = ap (λ g. g.fields) same; next = ap (λ g. g.next) same }
    by (Err r) f e = let z : ◌≡◌ {A = ℕ} 0 1 = cc in absurd (omega arith)

pub entry-had-none : (xs : List ℕ) (p : ℕ) (r : Refusal) → entry_read xs p ≡ Err r → entry_verdict xs (end_of xs) p ≡ Err r
unfolding entry_read entry_answer
entry-had-none xs p r = by (entry_verdict xs (end_of xs) p) _ _ _
  where
    by : (v : Verdict) (k : LinkFields) (i q : ℕ) → entry_answer v k i q ≡ Err r → v ≡ Err r
    by (Ok _) k i q e = let z : ◌≡◌ {A = ℕ} 0 1 = cc in absurd (omega arith)
    by (Err s) k i q e = cc
