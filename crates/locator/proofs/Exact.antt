-- What read back and rebuild say together: bytes are accepted exactly if they begin with those of a fitting locator, and
-- no two fitting locators share bytes.
-- Assumes nothing.
use Prim.Native.Nat.{ℕ}
use mathlib.Core.Path.{◌≡◌, sym, ap, ◌∙◌}
use mathlib.Core.List.{List, ◌++◌}
use lib.ListN.{length, drop, take-append-drop}
use lib.Seq.{drop-append_seam}
use Rattle.wire.specs.Lists.{Bytes}
use Rattle.locator.specs.Syntax.{locator_bytes, Fits}
use Rattle.locator.specs.Reading.{locator_at, size_at, locator_verdict, read_locator, got_locator}
use Rattle.locator.specs.declared.DvbBinaryLocator.{DvbBinaryLocator}
use Rattle.locator.proofs.Answers.{got-had, got-same}
use Rattle.locator.proofs.Back.{read_back}
use Rattle.locator.proofs.Rebuild.{fine-rebuilt}
use Rattle.wire.specs.Verdict.{Fine}

-- xs begins with the bytes of a fitting locator
pub record Spelt (xs : List ℕ) : Type 0 where
  pub locator : DvbBinaryLocator
  pub rest : List ℕ
  pub fits : Fits locator
  pub bytes : xs ≡ locator_bytes locator ++ rest

pub accepted : (xs : List ℕ) → Bytes xs → locator_verdict xs ≡ Fine → Spelt xs
accepted xs ok e =
    let g = fine-rebuilt xs ok e in
    record { locator = locator_at xs; rest = drop (size_at xs) xs; fits = g.fits; bytes = sym (take-append-drop (size_at xs) xs) ∙ ap (λ r. r ++ drop (size_at xs) xs) g.same }

pub accepts : (xs : List ℕ) → Spelt xs → locator_verdict xs ≡ Fine
accepts xs s = rw s.bytes (got-had (locator_bytes s.locator ++ s.rest) s.locator (length (locator_bytes s.locator)) (read_back s.locator s.rest s.fits)).fine

-- equal bytes, whatever follows: one locator, and the same follows
pub one-locator : (l m : DvbBinaryLocator) (r s : List ℕ) → Fits l → Fits m → locator_bytes l ++ r ≡ locator_bytes m ++ s → (l ≡ m) × (r ≡ s)
one-locator l m r s f g e =
    let p : read_locator (locator_bytes l ++ r) ≡ got_locator l (length (locator_bytes l)) = read_back l r f in
    let q : read_locator (locator_bytes m ++ s) ≡ got_locator m (length (locator_bytes m)) = read_back m s g in
    let same : l ≡ m = (got-same l m _ _ (sym p ∙ ap read_locator e ∙ q)).0 in
    (same, sym (drop-append_seam (locator_bytes l) r) ∙ ap (λ xs. drop (length (locator_bytes l)) xs) e ∙ rw same (drop-append_seam (locator_bytes m) s))
