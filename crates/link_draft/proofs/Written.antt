-- What is written of a record that passed its checks: the syntax's bytes, which are accepted and read as the link that the
-- record stands for. And that no other byte of the buffer changes, whatever the record.
-- Assumes nothing.
use Prim.Native.Nat.{ℕ, ◌+◌, ◌≤◌}
use mathlib.Core.Path.{◌≡◌, sym, ap, ◌∙◌}
use mathlib.Core.List.{List}
use native.Mathlib.Omega.{arith}
use lib.ListN.{length, take, drop}
use lib.Seq.{sets, take_at}
use Rattle.wire.specs.Lists.{Bytes, part}
use Rattle.wire.specs.Refusals.{against_type}
use Rattle.wire.specs.Verdict.{bad, Fine}
use Rattle.byte_stores.proofs.Writing.{sets-from}
use Rattle.link.specs.Syntax.{link_body}
use Rattle.link.specs.Reading.{body_verdict, link_at}
use Rattle.link.specs.Records.{link_of}
use Rattle.link.specs.declared.LinkInfo.{LinkInfo}
use Rattle.link.proofs.Laws.{link-back}
use Rattle.link_draft.specs.Checks.{check_link}
use Rattle.link_draft.specs.Lengths.{link_length}
use Rattle.link_draft.specs.Carried.{Carried}
use Rattle.link_draft.specs.Writing.{link_parts, link_put}
use Rattle.link_draft.proofs.Sizes.{length_is}
use Rattle.link_draft.proofs.Exact.{passed, check-fits}
use Rattle.link_draft.proofs.Parts.{all-length, all_room, all-before, all-behind}
use Rattle.link_draft.proofs.Bodies.{parts-flat, parts-few}
use Rattle.link_draft.proofs.Order.{type1-needs-locator}
use Rattle.std.specs.Prelude.{None}

-- a body that is accepted, and reads as the link that the record k stands for with the text t
pub record Accepted (t : List ℕ) (k : LinkInfo) (xs : List ℕ) : Type 0 where
  pub fine : body_verdict xs ≡ Fine
  pub same : link_at k.fields.reserved_link_info_length xs ≡ link_of t k

module _ (b : List ℕ) (at : ℕ) (t : List ℕ) (k : LinkInfo) where
  -- ---- whatever the record

  pub written-length : length (link_put b at t k) ≡ length b
  unfolding link_put
  written-length = all-length b at (link_parts t k)

  pub written-before : (i : ℕ) → i ≤ at → take i (link_put b at t k) ≡ take i b
  unfolding link_put
  written-before i l = all-before b at (link_parts t k) i l

  pub written_behind : (i : ℕ) → at + link_length k ≤ i → drop i (link_put b at t k) ≡ drop i b
  unfolding link_put
  written_behind i l = all-behind b at (link_parts t k) i (omega (arith, parts-few t k))

  -- ---- of a record that passed, where there is room

  module _ (fine : check_link t k ≡ Fine) (room : at + link_length k ≤ length b) where
    body-length : length (link_body (link_of t k)) ≡ link_length k
    body-length = length_is t k (passed t k fine).stands.ranges

    pub written-body : link_put b at t k ≡ sets b at (link_body (link_of t k))
    unfolding link_put
    written-body =
        let flat = parts-flat t k fine in
        all_room b at (link_parts t k) (omega (arith, ap length flat, body-length)) ∙ ap (sets b at) flat

    -- the part of the buffer that was written
    pub written-part : part (link_put b at t k) at (link_length k) ≡ link_body (link_of t k)
    written-part =
        let s = link_body (link_of t k) in
        rw (written-body, sets-from b at s (omega (arith, body-length))) (take_at s (drop (at + length s) b) (link_length k) body-length)

    pub written-accepted : Bytes t → Carried k → Accepted t k (part (link_put b at t k) at (link_length k))
    unfolding link_of
    written-accepted bs c =
        let back = link-back (link_of t k) (check-fits t k bs c fine) in
        rw written-part record { fine = back.0; same = back.1 }

-- ---- a link of type 1 without locator does not pass, so nobody who checks first writes it

pub type1-not-written : (t : List ℕ) (k : LinkInfo) → k.fields.link_type ≡ 1 → k.fields.dvb_binary_locator ≡ None → check_link t k ≡ Fine → ⊥
type1-not-written t k a b e =
    let refused : Fine ≡ bad against_type 1 0 = sym e ∙ type1-needs-locator t k a b in
    let z : ◌≡◌ {A = ℕ} 0 1 = cc in
    omega arith
