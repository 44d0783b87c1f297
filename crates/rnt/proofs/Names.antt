-- A name with the descriptors behind it: what was written at p is read at p, and what is read at p, written, is what stands there. Its rows.
-- Assumes nothing.
use mathlib.Core.Path.{◌≡◌, refl, sym, ap, ◌∙◌}
use Prim.Native.Nat.{ℕ, ◌+◌, ◌*◌, ◌/◌, ◌%◌, ◌≤◌, ◌<◌}
use native.Mathlib.Omega.{arith}
use mathlib.Core.Bool.{true}
use mathlib.Core.List.{List, [], ◌∷◌, ◌++◌, append_assoc}
use lib.ListN.{length, take, drop, get_or, length-append}
use lib.Seq.{take-add, take_at}
use borrow.Author.Tests.{lt-ltb, le-ltb}
use Rattle.wire.specs.Lists.{Bytes, part}
use Rattle.length_field.specs.Lengths.{block_bytes, block_at, block_end, block_need}
use Rattle.wire.specs.Verdict.{bad, refuse, ◌▷◌, Fine}
use Rattle.wire.proofs.Lists.{bytes-at, bytes-append, bytes-part, length_part, firsts-part, at-drop-first, drop_past}
use Rattle.length_field.proofs.Blocks.{block-length, block-bytes, BlockRead, block_back, block-rebuild, block-fits, block-passed, block-pass}
use Rattle.wire.proofs.Among.{listed, Among, among-row, among_then}
use Rattle.length_field.proofs.Listed.{block_listed}
use Rattle.wire.proofs.Verdicts.{then-fine, fine-then, passed-ltb, pass-ltb}
use Rattle.rnt.specs.Syntax.{widest_policy, Named, Authority, named_bytes, authority_named, NamedFits, AuthorityFits}
use Rattle.rnt.specs.Reading.{name_end, named_end, named_at, policy_of, reserved_of, authority_of, named_verdict}

-- ---- lengths

pub named-length : (n : Named) → length (named_bytes n) ≡ 3 + length n.name + length n.descriptors.body
unfolding named_bytes
named-length n = omega (arith, length-append n.name (block_bytes n.descriptors), block-length n.descriptors)

-- a place behind is further on
pub named-up : (xs : List ℕ) (p : ℕ) → p < named_end xs p
named-up xs p = omega arith

pub named-bytes : (n : Named) → NamedFits n → Bytes (named_bytes n)
unfolding named_bytes
named-bytes n f = (omega (arith, f.short), bytes-append n.name (block_bytes n.descriptors) f.bytes (block-bytes n.descriptors f.descriptors))

-- ---- what was written, read

pub record NamedRead (xs : List ℕ) (p : ℕ) (n : Named) (post : List ℕ) : Type 0 where
  pub same : named_at xs p ≡ n
  pub place : named_end xs p ≡ p + length (named_bytes n)
  pub past : drop (named_end xs p) xs ≡ post

pub named_back : (xs : List ℕ) (p : ℕ) (n : Named) (post : List ℕ) → NamedFits n → drop p xs ≡ named_bytes n ++ post → NamedRead xs p n post
unfolding named_bytes
named_back xs p n post f e =
    record { same = λ i. record { name = name_ok i; descriptors = block.same i }; place = omega (arith, len, block.len, named-length n); past = block.past }
  where
    tail : List ℕ
    tail = block_bytes n.descriptors ++ post

    split : drop p xs ≡ length n.name ∷ n.name ++ tail
    split = e ∙ ap (λ l. length n.name ∷ l) (append_assoc n.name (block_bytes n.descriptors) post)

    len : get_or xs p 0 ≡ length n.name
    len = at-drop-first xs p _ split

    rest : drop (p + 1) xs ≡ n.name ++ tail
    rest = drop_past xs p 1 (length n.name ∷ []) (n.name ++ tail) split refl

    name_ok : part xs (p + 1) (get_or xs p 0) ≡ n.name
    name_ok = rw (rest, len) (take_at n.name tail (length n.name) refl)

    block : BlockRead xs (name_end xs p) n.descriptors post
    block = block_back xs (name_end xs p) n.descriptors post f.descriptors (drop_past xs (p + 1) (get_or xs p 0) n.name tail rest (sym len))

-- ---- what is read, written

pub record NamedRebuilt (xs : List ℕ) (p : ℕ) : Type 0 where
  pub same : take p xs ++ named_bytes (named_at xs p) ≡ take (named_end xs p) xs
  pub fits : NamedFits (named_at xs p)

pub named-rebuilt : (xs : List ℕ) (p : ℕ) → Bytes xs → named_end xs p ≤ length xs → NamedRebuilt xs p
unfolding named_bytes
named-rebuilt xs p b h =
    record {
      same =
          rw (len, one)
          (sym (append_assoc (take p xs) (part xs p 1) (name ++ block))
          ∙ ap (λ l. l ++ (name ++ block)) (sym (take-add p 1 xs))
          ∙ sym (append_assoc (take (p + 1) xs) name block)
          ∙ ap (λ l. l ++ block) (sym (take-add (p + 1) n xs)) ∙ block-rebuild xs (name_end xs p) b h);
      fits = record { short = rw len (omega (arith, bytes-at xs p b)); bytes = bytes-part xs (p + 1) n b; descriptors = block-fits xs (name_end xs p) b h };
    }
  where
    n : ℕ
    n = get_or xs p 0

    name : List ℕ
    name = part xs (p + 1) n

    block : List ℕ
    block = block_bytes (block_at xs (name_end xs p))

    len : length name ≡ n
    len = length_part xs (p + 1) n (omega arith)

    one : n ∷ name ++ block ≡ part xs p 1 ++ (name ++ block)
    one = ap (λ l. l ++ (name ++ block)) (firsts-part 1 xs p (omega arith))

-- ---- the rows

module _ (cut short : ℕ) (xs : List ℕ) (e p : ℕ) where
  pub named-passed : named_verdict cut short xs e p ≡ Fine → named_end xs p ≤ e
  unfolding named_verdict
  named-passed v = block-passed short short _ _ xs e (name_end xs p) (then-fine _ _ (then-fine _ _ v).1).1

  pub named-pass : named_end xs p ≤ e → named_verdict cut short xs e p ≡ Fine
  unfolding named_verdict
  named-pass h =
      fine-then _ _ (pass-ltb e (p + 1) _ _ _ (omega arith))
      (fine-then _ _ (pass-ltb e (name_end xs p) _ _ _ (omega arith)) (block-pass short short _ _ xs e (name_end xs p) h))

  pub name-length-cut : e < p + 1 → named_verdict cut short xs e p ≡ bad cut (p + 1) e
  unfolding named_verdict refuse ◌▷◌
  name-length-cut h = rw (lt-ltb _ _ h)

  pub name_cut : p + 1 ≤ e → e < name_end xs p → named_verdict cut short xs e p ≡ bad cut (name_end xs p) e
  unfolding named_verdict refuse ◌▷◌
  name_cut h k = rw (le-ltb _ _ h, lt-ltb _ _ k)

  -- behind the name the rows are the block's
  pub name-whole : name_end xs p ≤ e → named_verdict cut short xs e p ≡ block_need short short xs e (name_end xs p)
  unfolding named_verdict refuse ◌▷◌
  name-whole h = let one : p + 1 ≤ e = omega arith in rw (le-ltb _ _ one, le-ltb _ _ h)

  pub named-listed : (ns : List ℕ) → listed cut ns ≡ true → listed short ns ≡ true → Among ns (named_verdict cut short xs e p)
  unfolding named_verdict
  named-listed ns c s = among_then ns _ _ (among-row ns _ cut _ _ c) (among_then ns _ _ (among-row ns _ cut _ _ c) (block_listed ns short short s s _ _ xs e (name_end xs p)))

-- ---- an authority: its four bits

pub authority-fits : (a : Authority) → AuthorityFits a → NamedFits (authority_named a)
authority-fits a f =
    record { short = f.short; bytes = f.bytes; descriptors = record { narrow = omega (arith, f.reserved, f.policy); short = f.descriptors_short; bytes = f.descriptors_bytes } }

-- taken apart and put together
pub bits_back : (a : Authority) → AuthorityFits a → authority_of (authority_named a) ≡ a
bits_back a f = λ i. record { name = a.name; reserved = high i; policy = last i; descriptors = a.descriptors }
  where
    high : reserved_of (a.reserved * (widest_policy + 1) + a.policy) ≡ a.reserved
    high = omega (arith, f.policy)

    last : policy_of (a.reserved * (widest_policy + 1) + a.policy) ≡ a.policy
    last = omega (arith, f.policy)

pub bits-rebuilt : (n : Named) → authority_named (authority_of n) ≡ n
bits-rebuilt n = λ i. record { name = n.name; descriptors = record { beside = four i; body = n.descriptors.body } }
  where
    four : reserved_of n.descriptors.beside * (widest_policy + 1) + policy_of n.descriptors.beside ≡ n.descriptors.beside
    four = omega arith

pub authority-of-fits : (n : Named) → NamedFits n → AuthorityFits (authority_of n)
authority-of-fits n f =
    record {
      reserved = omega (arith, f.descriptors.narrow);
      policy = omega arith;
      short = f.short;
      bytes = f.bytes;
      descriptors_short = f.descriptors.short;
      descriptors_bytes = f.descriptors.bytes;
    }
