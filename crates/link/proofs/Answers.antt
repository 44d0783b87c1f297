-- What the calls answer, by the body's verdict; and what a link's record and its fields alone share.
-- Assumes nothing.
use mathlib.Core.Path.{◌≡◌, refl, sym, ap}
use Prim.Native.Nat.{ℕ, ◌+◌, ◌-◌}
use native.Mathlib.Omega.{arith}
use mathlib.Core.List.{List}
use Rattle.wire.specs.declared.verdict.Refusal.{Refusal}
use Rattle.link.specs.Reading.{items_place, body_verdict}
use Rattle.link.specs.Records.{filled, item_infos, fields_at, info_at}
use Rattle.link.specs.Answers.{link_answer, link_read, fields_answer, fields_read, got_fields, link_got}
use Rattle.link.specs.declared.LinkFields.{LinkFields}
use Rattle.link.specs.declared.LinkItem.{LinkItem}
use Rattle.std.specs.Prelude.{Err, Ok}
use Rattle.wire.specs.Verdict.{Fine, Verdict, verdict_of}
use Rattle.wire.proofs.Verdicts.{ok-same}

module _ (base r : ℕ) (xs : List ℕ) where
  -- ---- the fields

  pub fields-fine : body_verdict xs ≡ Fine → got_fields (fields_at base r xs) (base + items_place xs) ≡ fields_read base r xs
  unfolding fields_read fields_answer
  fields-fine v = rw v

  pub fields-refused : (q : Refusal) → body_verdict xs ≡ Err q → Err q ≡ fields_read base r xs
  unfolding fields_read fields_answer
  fields-refused q v = rw v

  -- what an answer says
  pub record FieldsHad (k : LinkFields) (p : ℕ) : Type 0 where
    pub fine : body_verdict xs ≡ Fine
    pub fields : k ≡ fields_at base r xs
    pub place : p ≡ base + items_place xs

  pub fields_had : (k : LinkFields) (p : ℕ) → fields_read base r xs ≡ got_fields k p → FieldsHad k p
  unfolding fields_read fields_answer
  fields_had k p e = go (body_verdict xs) refl e
    where
      go : (v : Verdict) → body_verdict xs ≡ v → fields_answer v (fields_at base r xs) (base + items_place xs) ≡ got_fields k p → FieldsHad k p
      go (Ok _) w q = let same = ok-same _ _ q in record { fine = w; fields = sym (ap (λ a. a.fields) same); place = sym (ap (λ a. a.items_at) same) }
      go (Err s) w q = let z : ◌≡◌ {A = ℕ} 0 1 = cc in absurd (omega arith)

  pub fields-not : (q : Refusal) → fields_read base r xs ≡ Err q → body_verdict xs ≡ Err q
  unfolding fields_read fields_answer
  fields-not q e = go (body_verdict xs) e
    where
      go : (v : Verdict) → fields_answer v (fields_at base r xs) (base + items_place xs) ≡ Err q → v ≡ Err q
      go (Ok _) w = let z : ◌≡◌ {A = ℕ} 0 1 = cc in absurd (omega arith)
      go (Err s) w = cc

  -- ---- a link is its fields with its items, and beside a refusal the record of nothing

  -- as many items as the fields say, from the place on that is answered with them
  pub link-filled : (k : LinkFields) (p : ℕ) (is : List LinkItem) → fields_read base r xs ≡ got_fields k p → is ≡ filled (item_infos base k.number_items xs (p - base))
      → Ok (record { fields = k; items = is }) ≡ link_read base r xs
  unfolding link_read link_answer info_at fields_at
  link-filled k p is e i =
      let h = fields_had k p e in
      let first : p - base ≡ items_place xs = omega (arith, h.place) in
      rw (h.fine, i, first, h.fields)

  pub link-refused : (q : Refusal) → fields_read base r xs ≡ Err q → Err q ≡ link_read base r xs
  unfolding link_read link_answer
  link-refused q e = rw (fields-not q e)

  -- the same verdict, and the same fields
  pub fields_shared : fields_read base r xs ≡ fields_answer (verdict_of (link_read base r xs)) (link_got (link_read base r xs)).fields (base + items_place xs)
  unfolding link_read fields_read link_answer fields_answer info_at
  fields_shared = go (body_verdict xs)
    where
      go : (v : Verdict) → fields_answer v (fields_at base r xs) (base + items_place xs)
          ≡ fields_answer (verdict_of (link_answer v (info_at base r xs))) (link_got (link_answer v (info_at base r xs))).fields (base + items_place xs)
      go (Ok _) = refl
      go (Err q) = refl
