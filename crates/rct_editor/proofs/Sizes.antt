-- How long the entry of a record is that passed its checks.
-- Assumes nothing.
use Prim.Native.Nat.{ℕ, ◌+◌, ◌-◌, ◌≤◌, ◌<◌}
use mathlib.Core.Path.{◌≡◌, sym, ap, ◌∙◌}
use mathlib.Core.List.{List}
use native.Mathlib.Omega.{arith}
use lib.ListN.{length}
use lib.Seq.{sets}
use Rattle.wire.specs.Lists.{part}
use Rattle.wire.specs.declared.verdict.Refusal.{Refusal}
use Rattle.length_field.proofs.Blocks.{block-length}
use Rattle.link.specs.Syntax.{entry_of, link_body}
use Rattle.link.specs.Records.{link_of}
use Rattle.link.specs.declared.LinkInfo.{LinkInfo}
use Rattle.link_draft.specs.Checks.{check_link, link_checked}
use Rattle.link_draft.specs.declared.LinkChecked.{LinkChecked}
use Rattle.link_draft.proofs.Short.{checked-short}
use Rattle.frame.specs.Syntax.{uncounted, crc_length}
use Rattle.frame.specs.Reading.{declared, total_of}
use Rattle.link_draft.specs.Lengths.{link_length}
use Rattle.link_draft.proofs.Sizes.{length_is}
use Rattle.link_draft.proofs.Exact.{passed}
use Rattle.byte_moves.specs.Moves.{moved_within}
use Rattle.byte_moves.proofs.Exact.{moves}
use Rattle.rct_editor.specs.Splicing.{entry_bytes, Spot, length_between, Fitting}
use Rattle.std.specs.Prelude.{Err}
use Rattle.wire.specs.Verdict.{Fine}

-- as many bytes as the record says, behind the two of its length
pub body-size : (t : List ℕ) (k : LinkInfo) → check_link t k ≡ Fine → length (link_body (link_of t k)) ≡ link_length k
body-size t k e = length_is t k (passed t k e).stands.ranges

pub entry-size : (t : List ℕ) (k : LinkInfo) → check_link t k ≡ Fine → length (entry_bytes t k) ≡ 2 + link_length k
entry-size t k e = omega (arith, block-length (entry_of (link_of t k)), body-size t k e)

-- ---- what the check of the record answered

pub own-refused : (t : List ℕ) (k : LinkInfo) (own : LinkChecked) (r : Refusal) → own ≡ link_checked t k → own.verdict ≡ Err r → check_link t k ≡ Err r
unfolding link_checked
own-refused t k own r e v = sym (ap (λ (o : LinkChecked). o.verdict) e) ∙ v

-- of a record that passed: its length, and that of the section with the link between p and q
pub record Owned (xs : List ℕ) (p q : ℕ) (t : List ℕ) (k : LinkInfo) (total body : ℕ) : Type 0 where
  pub fine : check_link t k ≡ Fine
  pub size : body ≡ link_length k
  pub short : body < 65536
  pub is : total - uncounted - (q - p) + 2 + body ≡ length_between xs p q (link_length k)

pub owned : (xs : List ℕ) (p q : ℕ) (t : List ℕ) (k : LinkInfo) (total : ℕ) (own : LinkChecked) → own ≡ link_checked t k → own.verdict ≡ Fine → total ≡ total_of xs
    → Owned xs p q t k total own.length
unfolding link_checked
owned xs p q t k total own e v w =
    let fine : check_link t k ≡ Fine = sym (ap (λ (o : LinkChecked). o.verdict) e) ∙ v in
    let size : own.length ≡ link_length k = ap (λ (o : LinkChecked). o.length) e in
    record { fine = fine; size = size; short = omega (arith, size, checked-short t k fine); is = omega (arith, size, w) }

-- ---- the bytes that move, and the old end

pub total-within : (xs : List ℕ) (p q total : ℕ) → Spot xs p q → total ≡ total_of xs → total ≤ length xs
total-within xs p q total sp w = omega (arith, sp.within)

-- so many lengths later
pub still-within : (n a b c d e : ℕ) → n ≤ a → b ≡ a → c ≡ b → d ≡ c → e ≡ d → n ≤ e
still-within n a b c d e h f g i j = omega arith

module _ (xs : List ℕ) (p q : ℕ) (t : List ℕ) (k : LinkInfo) (total body len e : ℕ) (sp : Spot xs p q) (size : body ≡ link_length k) (f : Fitting xs p q t k len) (w : total ≡ total_of xs) (end : e ≡ total - crc_length) where
  four : e + 4 ≡ total_of xs
  four = omega (arith, sp.large)

  behind : q + (e - q) ≡ e
  behind = omega (arith, four, sp.inside)

  gone : p + (q - p) ≡ q
  gone = omega (arith, sp.ordered)

  whole : len + (q - p) ≡ declared xs + 2 + body
  whole = omega (arith, f.is, gone, four, sp.inside, sp.low)

  pub tail-moves : sets xs (p + 2 + body) (part xs q (e - q)) ≡ moved_within xs q (p + 2 + body) (e - q)
  tail-moves =
      let a = f.enough in
      (moves xs q (p + 2 + body) (e - q) (omega (arith, behind, four, sp.within)) (sum (e - q) (q - p) behind four gone whole a)).1
    where
      sum : (m g : ℕ) → q + m ≡ e → e + 4 ≡ total_of xs → p + g ≡ q → len + g ≡ declared xs + 2 + body → uncounted + len ≤ length xs → p + 2 + body + m ≤ length xs
      sum m g h i j l n = omega arith
