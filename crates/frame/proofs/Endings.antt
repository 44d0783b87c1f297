-- The CRC behind the bytes that it is of: what is put there and what is read there, where there is room for it and where there is none.
-- Assumes nothing.
use Prim.Native.Nat.{ℕ, ◌+◌, ◌≤◌, ◌<◌}
use mathlib.Core.Path.{◌≡◌, sym, ap, ◌∙◌}
use mathlib.Core.List.{List}
use lib.ListN.{length, take}
use borrow.Author.Tests.{le-leb, lt-leb, ne_eqb}
use Rattle.wire.specs.Numbers.{bytes32}
use Rattle.wire.specs.Refusals.{wrong_crc}
use Rattle.byte_stores.specs.Stores.{put_at}
use Rattle.wire.specs.Verdict.{bad, refuse, Fine}
use Rattle.wire.proofs.Verdicts.{pass-eqb, passed-eqb}
use Rattle.wire.proofs.Words.{length-bytes32}
use Rattle.byte_stores.proofs.Writing.{copied}
use Rattle.crc.specs.Crc.{crc_of}
use Rattle.frame.specs.Syntax.{crc_length}
use Rattle.frame.specs.Reading.{stored_at, computed_at, crc_row}
use Rattle.frame.specs.Ending.{crc_verdict, sealed_at, seal_at, seal_end}

module _ (xs : List ℕ) (e : ℕ) where
  -- ---- read

  pub crc-none : length xs < e + crc_length → crc_verdict xs e ≡ bad wrong_crc 0 0
  unfolding crc_verdict
  crc-none h = rw (lt-leb _ _ h)

  pub crc-room : e + crc_length ≤ length xs → crc_verdict xs e ≡ crc_row xs e
  unfolding crc_verdict
  crc-room h = rw (le-leb _ _ h)

  -- a is stored, b computed
  module _ (a b : ℕ) (p : a ≡ stored_at xs e) (q : b ≡ computed_at xs e) where
    pub crc-wrong : (a ≡ b → ⊥) → bad wrong_crc a b ≡ crc_row xs e
    unfolding crc_row refuse
    crc-wrong n = rw (← p, ← q, ne_eqb a b n)

    pub crc-right : a ≡ b → Fine ≡ crc_row xs e
    unfolding crc_row
    crc-right r = sym (pass-eqb (stored_at xs e) (computed_at xs e) _ _ _ (sym p ∙ r ∙ q))

  pub crc-passed : crc_row xs e ≡ Fine → stored_at xs e ≡ computed_at xs e
  unfolding crc_row
  crc-passed v = passed-eqb _ _ _ _ _ v

  pub crc-pass : stored_at xs e ≡ computed_at xs e → crc_row xs e ≡ Fine
  unfolding crc_row
  crc-pass r = pass-eqb _ _ _ _ _ r

  -- ---- written

  pub sealed-room : e + crc_length ≤ length xs → (seal_end xs e ≡ e + crc_length) × (seal_at xs e ≡ sealed_at xs e)
  unfolding seal_end seal_at
  sealed-room h = (rw (le-leb _ _ h), rw (le-leb _ _ h))

  pub sealed-none : length xs < e + crc_length → (0 ≡ seal_end xs e) × (xs ≡ seal_at xs e)
  unfolding seal_end seal_at
  sealed-none h = (rw (lt-leb _ _ h), rw (lt-leb _ _ h))

  pub sealed-put : (ys : List ℕ) (crc : ℕ) (bs : List ℕ) → e + crc_length ≤ length xs → crc ≡ crc_of (take e xs) → bs ≡ bytes32 crc → ys ≡ put_at xs e bs
      → (e + crc_length ≡ seal_end xs e) × (ys ≡ seal_at xs e)
  unfolding sealed_at
  sealed-put ys crc bs h c b p =
      let r = sealed-room h in
      (sym r.0, (copied xs ys bs e crc_length p (ap length b ∙ length-bytes32 crc) h).bytes ∙ rw (b, c) (sym r.1))
