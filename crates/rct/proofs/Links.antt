-- The links: those that are read, written, are the bytes that stand there, and those that were written are read. Where each stands.
-- Assumes nothing.
use mathlib.Core.Path.{◌≡◌, refl, sym, ap, ◌∙◌}
use Prim.Native.Nat.{ℕ, zero, suc, ◌+◌, ◌≤◌, ◌<◌}
use native.Mathlib.Nat.{not-suc-le-zero, le_of_suc-le-suc}
use native.Mathlib.Omega.{arith}
use mathlib.Core.List.{List, [], ◌∷◌, ◌++◌, append_assoc, append-nil}
use lib.ListN.{length, take, drop, get_or, length-append}
use Rattle.wire.specs.Lists.{Bytes}
use Rattle.length_field.specs.Lengths.{length_at, beside_at, Block, BlockFits, block_bytes, block_at, block_end}
use Rattle.wire.proofs.Lists.{bytes-part, length_part}
use Rattle.length_field.proofs.Blocks.{length-short, beside-narrow, block-length, BlockRead, block_back, block-rebuild, block-passed, block-pass}
use Rattle.wire.specs.Verdict.{◌▷◌, Fine}
use Rattle.wire.proofs.Verdicts.{then-fine, fine-then, go_on, then-assoc}
use Rattle.link.specs.Syntax.{Link, link_body, entry_of}
use Rattle.link.specs.Reading.{body_verdict, link_at}
use Rattle.link.proofs.Laws.{link-back, link-rebuild, link-beside, link-bytes}
use Rattle.rct.specs.Syntax.{links_bytes, EntryFits, LinksFit}
use Rattle.rct.specs.Reading.{body_in, link_in, after, links_at, entry_rows, entry_verdict, links_verdict}

-- ---- one link

pub entry_length : (l : Link) → length (block_bytes (entry_of l)) ≡ 2 + length (link_body l)
entry_length l = block-length (entry_of l)

-- a link that fits has an entry that fits
pub entry-fits : (l : Link) → EntryFits l → BlockFits (entry_of l)
entry-fits l f = record { narrow = f.link.length_reserved; short = f.short; bytes = link-bytes l f.link }

-- a link that is read from an accepted body fits, and its entry is the block that stands there
pub record EntryRead (xs : List ℕ) (p : ℕ) : Type 0 where
  pub fit : EntryFits (link_in xs p)
  pub same : entry_of (link_in xs p) ≡ block_at xs p
  pub size : length (link_body (link_in xs p)) ≡ length_at xs p

pub entry_read_lem : (xs : List ℕ) (p : ℕ) → Bytes xs → block_end xs p ≤ length xs → body_verdict (body_in xs p) ≡ Fine → EntryRead xs p
entry_read_lem xs p b h v =
    let r = link-rebuild (beside_at xs p) (body_in xs p) (bytes-part xs (p + 2) (length_at xs p) b) (beside-narrow xs p b) v in
    let n : length (link_body (link_in xs p)) ≡ length_at xs p = ap length r.1 ∙ length_part xs (p + 2) (length_at xs p) h in
    record {
      fit = record { link = r.0; short = rw n (length-short xs p b) };
      same = λ i. record { beside = link-beside (beside_at xs p) (body_in xs p) i; body = r.1 i };
      size = n;
    }

-- ---- the rows of an entry

pub record EntryPassed (xs : List ℕ) (e p : ℕ) : Type 0 where
  pub within : block_end xs p ≤ e
  pub good : body_verdict (body_in xs p) ≡ Fine

pub entry-passed : (xs : List ℕ) (e p : ℕ) → entry_verdict xs e p ≡ Fine → EntryPassed xs e p
unfolding entry_verdict
entry-passed xs e p v =
    let two = then-fine (entry_rows xs e p) _ v in
    record { within = block-passed _ _ _ _ xs e p two.0; good = two.1 }

pub entry-pass : (xs : List ℕ) (e p : ℕ) → block_end xs p ≤ e → body_verdict (body_in xs p) ≡ Fine → entry_verdict xs e p ≡ Fine
unfolding entry_verdict
entry-pass xs e p h g = fine-then _ _ (block-pass _ _ _ _ xs e p h) g

-- ---- a walk in two parts

pub after-sum : (m n : ℕ) (xs : List ℕ) (p : ℕ) → after (m + n) xs p ≡ after n xs (after m xs p)
after-sum zero n xs p = let z : 0 + n ≡ n = omega arith in rw z
after-sum (suc m) n xs p = let s : suc m + n ≡ suc (m + n) = omega arith in rw s (after-sum m n xs (block_end xs p))

pub links-sum : (m n : ℕ) (xs : List ℕ) (e p : ℕ) → links_verdict (m + n) xs e p ≡ links_verdict m xs e p ▷ links_verdict n xs e (after m xs p)
links-sum zero n xs e p = let z : 0 + n ≡ n = omega arith in rw z (sym (go_on Fine (links_verdict n xs e p) refl))
links-sum (suc m) n xs e p =
    let s : suc m + n ≡ suc (m + n) = omega arith in
    rw (s, links-sum m n xs e (block_end xs p)) (sym (then-assoc (entry_verdict xs e p) _ _))

-- ---- links that are read

pub length-links_at : (n : ℕ) (xs : List ℕ) (p : ℕ) → length (links_at n xs p) ≡ n
length-links_at zero xs p = refl
length-links_at (suc n) xs p = ap suc (length-links_at n xs (block_end xs p))

pub after-up : (n : ℕ) (xs : List ℕ) (p : ℕ) → p ≤ after n xs p
after-up zero xs p = omega arith
after-up (suc n) xs p = omega (arith, after-up n xs (block_end xs p))

pub record Walked (n : ℕ) (xs : List ℕ) (e p : ℕ) : Type 0 where
  pub within : after n xs p ≤ e
  pub same : take p xs ++ links_bytes (links_at n xs p) ≡ take (after n xs p) xs
  pub fit : LinksFit (links_at n xs p)

pub walked : (n : ℕ) (xs : List ℕ) (e p : ℕ) → Bytes xs → e ≤ length xs → p ≤ e → links_verdict n xs e p ≡ Fine → Walked n xs e p
walked zero xs e p b l h v = record { within = h; same = append-nil (take p xs); fit = tt }
walked (suc n) xs e p b l h v =
    let one = then-fine (entry_verdict xs e p) _ v in
    let k = entry-passed xs e p one.0 in
    let r' : block_end xs p ≤ length xs = omega arith in
    let w = walked n xs e (block_end xs p) b l k.within one.1 in
    let x = entry_read_lem xs p b r' k.good in
    record {
      within = w.within;
      same =
          sym (append_assoc (take p xs) (block_bytes (entry_of (link_in xs p))) (links_bytes (links_at n xs (block_end xs p))))
          ∙ ap (λ r. r ++ links_bytes (links_at n xs (block_end xs p))) (ap (λ k. take p xs ++ block_bytes k) x.same ∙ block-rebuild xs p b r') ∙ w.same;
      fit = (x.fit, w.fit);
    }

-- behind k of n links stands what the syntax puts there: link k, and behind the last what follows the links
pub place_of : (n k : ℕ) (xs : List ℕ) (e p : ℕ) → Bytes xs → e ≤ length xs → links_verdict n xs e p ≡ Fine → k ≤ n
    → after k xs p ≡ p + length (links_bytes (take k (links_at n xs p)))
place_of n zero xs e p b l v h = omega arith
place_of zero (suc k) xs e p b l v h = absurd (not-suc-le-zero h)
place_of (suc n) (suc k) xs e p b l v h =
    let one = then-fine (entry_verdict xs e p) _ v in
    let w = entry-passed xs e p one.0 in
    let x = entry_read_lem xs p b (omega arith) w.good in
    let i = place_of n k xs e (block_end xs p) b l one.1 (le_of_suc-le-suc h) in
    omega (arith, i, x.size, entry_length (link_in xs p), length-append (block_bytes (entry_of (link_in xs p))) (links_bytes (take k (links_at n xs (block_end xs p)))))

-- link k of n: where it stands, what it is, that it lies within the payload, and that its body is accepted
pub record Found (n k : ℕ) (xs : List ℕ) (e p : ℕ) : Type 0 where
  pub place : after k xs p ≡ p + length (links_bytes (take k (links_at n xs p)))
  pub link : (d : Link) → get_or (links_at n xs p) k d ≡ link_in xs (after k xs p)
  pub within : block_end xs (after k xs p) ≤ e
  pub good : body_verdict (body_in xs (after k xs p)) ≡ Fine

pub found : (n k : ℕ) (xs : List ℕ) (e p : ℕ) → Bytes xs → e ≤ length xs → links_verdict n xs e p ≡ Fine → k < n → Found n k xs e p
found zero k xs e p b l v h = absurd (not-suc-le-zero h)
found (suc n) zero xs e p b l v h =
    let k = entry-passed xs e p (then-fine (entry_verdict xs e p) _ v).0 in
    record { place = place_of (suc n) zero xs e p b l v (omega arith); link = λ d. refl; within = k.within; good = k.good }
found (suc n) (suc k) xs e p b l v h =
    let one = then-fine (entry_verdict xs e p) _ v in
    let i = found n k xs e (block_end xs p) b l one.1 (le_of_suc-le-suc h) in
    record { place = place_of (suc n) (suc k) xs e p b l v (omega arith); link = i.link; within = i.within; good = i.good }

-- ---- links that were written

pub record LinksRead (ls : List Link) (xs : List ℕ) (e p : ℕ) (post : List ℕ) : Type 0 where
  pub place : after (length ls) xs p ≡ p + length (links_bytes ls)
  pub same : links_at (length ls) xs p ≡ ls
  pub past : drop (after (length ls) xs p) xs ≡ post
  pub passed : links_verdict (length ls) xs e p ≡ Fine

pub links-back : (ls : List Link) (xs : List ℕ) (e p : ℕ) (post : List ℕ) → LinksFit ls → drop p xs ≡ links_bytes ls ++ post → p + length (links_bytes ls) ≤ e
    → LinksRead ls xs e p post
links-back [] xs e p post f d h = record { place = omega arith; same = refl; past = d; passed = refl }
links-back (l ∷ ls) xs e p post f d h =
    let r : BlockRead xs p (entry_of l) (links_bytes ls ++ post) =
    block_back xs p (entry_of l) (links_bytes ls ++ post) (entry-fits l f.0) (d ∙ append_assoc (block_bytes (entry_of l)) (links_bytes ls) post) in
    let k = link-back l f.0.link in
    let n : length (links_bytes (l ∷ ls)) ≡ 2 + length (link_body l) + length (links_bytes ls) = simp (length-append, entry_length) in
    let w = links-back ls xs e (block_end xs p) post f.1 r.past (omega (arith, r.len)) in
    record {
      place = omega (arith, w.place, r.len);
      same = λ i. (ap (λ (b : Block). link_at b.beside b.body) r.same ∙ k.1) i ∷ w.same i;
      past = w.past;
      passed =
          fine-then _ _ (entry-pass xs e p (omega (arith, r.len)) (ap (λ (b : Block). body_verdict b.body) r.same ∙ k.0)) w.passed;
    }

pub links-append : (a b : List Link) → links_bytes (a ++ b) ≡ links_bytes a ++ links_bytes b
links-append [] b = refl
links-append (l ∷ ls) b = rw (links-append ls b) (sym (append_assoc (block_bytes (entry_of l)) (links_bytes ls) (links_bytes b)))
