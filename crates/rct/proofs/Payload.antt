-- What is read of a section's payload, cut off at its end e, is what is read of the section up to e: each entry, the links and the loop, refused or not.
-- Assumes nothing.
use mathlib.Core.Path.{◌≡◌, refl, sym, ap, ◌∙◌}
use Prim.Native.Nat.{ℕ, zero, suc, ◌+◌, ◌-◌, ◌≤◌}
use native.Mathlib.Nat.{zero-add}
use native.Mathlib.Omega.{arith}
use mathlib.Core.Bool.{Bool, true, false}
use mathlib.Core.List.{List, ◌∷◌}
use lib.Dec.{ltb}
use lib.ListN.{length, take, get_or}
use lib.Seq.{get_or-take}
use borrow.Author.Tests.{ltb-true, ltb-false}
use Rattle.wire.specs.Lists.{part}
use Rattle.length_field.specs.Lengths.{length_at, beside_at, block_end, long_row, block_verdict, last_verdict}
use Rattle.wire.specs.Refusals.{entry_cut, link_too_long, loop_cut, loop_too_long}
use Rattle.wire.specs.Verdict.{◌▷◌, Fine, Verdict}
use Rattle.length_field.proofs.Blocks.{block-passed, block-cut, block-left}
use Rattle.wire.proofs.Lists.{part-part}
use Rattle.wire.proofs.Verdicts.{then-fine, go_on, refused-then}
use Rattle.link.specs.Reading.{body_verdict, link_at}
use Rattle.rct.proofs.Links.{entry-passed}
use Rattle.rct.specs.Reading.{body_in, link_in, after, links_at, entry_verdict, links_verdict, loop_verdict}
use Rattle.std.specs.Prelude.{Err, Ok}

-- ---- one entry

module _ (xs : List ℕ) (e p : ℕ) (h : p + 2 ≤ e) where
  first : get_or (take e xs) p 0 ≡ get_or xs p 0
  first = get_or-take e xs p 0 (omega arith)

  second : get_or (take e xs) (p + 1) 0 ≡ get_or xs (p + 1) 0
  second = get_or-take e xs (p + 1) 0 (omega arith)

  pub length-same : length_at (take e xs) p ≡ length_at xs p
  length-same = rw (first, second)

  pub beside_same : beside_at (take e xs) p ≡ beside_at xs p
  beside_same = rw (first, second)

pub body_same : (xs : List ℕ) (e p : ℕ) → block_end xs p ≤ e → body_in (take e xs) p ≡ body_in xs p
body_same xs e p h = rw (length-same xs e p (omega arith)) (part-part xs 0 e (p + 2) (length_at xs p) h ∙ ap (λ q. part xs q (length_at xs p)) (zero-add (p + 2)))

-- the rows of a block are the same where its length is there, and where it is cut off
rows_same : (cut long : ℕ) (xs : List ℕ) (e p : ℕ) → block_verdict cut long (take e xs) e p ≡ block_verdict cut long xs e p
rows_same cut long xs e p = by (ltb e (p + 2)) refl
  where
    by : (b : Bool) → ltb e (p + 2) ≡ b → block_verdict cut long (take e xs) e p ≡ block_verdict cut long xs e p
    by true t = block-cut cut long _ _ (take e xs) e p (ltb-true e (p + 2) t) ∙ sym (block-cut cut long _ _ xs e p (ltb-true e (p + 2) t))
    by false t =
        let h = ltb-false e (p + 2) t in
        block-left cut long (take e xs) e p h ∙ ap (λ n. long_row long n (e - (p + 2))) (length-same xs e p h) ∙ sym (block-left cut long xs e p h)

-- and so is what is asked behind them, w of the payload and v of the section, where it is the same behind a block that lies within e
behind-same : (cut long : ℕ) (xs : List ℕ) (e p : ℕ) (w v : Verdict) → (block_end xs p ≤ e → w ≡ v)
    → block_verdict cut long (take e xs) e p ▷ w ≡ block_verdict cut long xs e p ▷ v
behind-same cut long xs e p w v same = by (block_verdict cut long xs e p) refl
  where
    by : (u : Verdict) → block_verdict cut long xs e p ≡ u → block_verdict cut long (take e xs) e p ▷ w ≡ block_verdict cut long xs e p ▷ v
    by (Ok _) f = go_on _ w (rows_same cut long xs e p ∙ f) ∙ same (block-passed _ _ _ _ xs e p f) ∙ sym (go_on _ v f)
    by (Err r) f = refused-then _ w r (rows_same cut long xs e p ∙ f) ∙ sym (refused-then _ v r f)

entry-same : (xs : List ℕ) (e p : ℕ) → entry_verdict (take e xs) e p ≡ entry_verdict xs e p
unfolding entry_verdict
entry-same xs e p = behind-same entry_cut link_too_long xs e p _ _ (λ h. ap body_verdict (body_same xs e p h))

-- ---- the loop

pub loop-same : (xs : List ℕ) (e p : ℕ) → loop_verdict (take e xs) e p ≡ loop_verdict xs e p
unfolding last_verdict
loop-same xs e p = behind-same loop_cut loop_too_long xs e p _ _ (λ h. rw (length-same xs e p (omega arith)))

-- ---- n links

-- behind an entry that passed
end_same : (xs : List ℕ) (e p : ℕ) → entry_verdict xs e p ≡ Fine → block_end (take e xs) p ≡ block_end xs p
end_same xs e p v = let w = (entry-passed xs e p v).within in ap (λ n. p + 2 + n) (length-same xs e p (omega arith))

pub links-same : (n : ℕ) (xs : List ℕ) (e p : ℕ) → links_verdict n (take e xs) e p ≡ links_verdict n xs e p
links-same zero xs e p = refl
links-same (suc n) xs e p = by (entry_verdict xs e p) refl (links-same n xs e (block_end xs p))
  where
    by : (v : Verdict) → entry_verdict xs e p ≡ v → links_verdict n (take e xs) e (block_end xs p) ≡ links_verdict n xs e (block_end xs p)
        → links_verdict (suc n) (take e xs) e p ≡ links_verdict (suc n) xs e p
    by (Ok _) f rest = go_on _ _ (entry-same xs e p ∙ f) ∙ ap (links_verdict n (take e xs) e) (end_same xs e p f) ∙ rest ∙ sym (go_on _ _ f)
    by (Err r) f rest = refused-then _ _ r (entry-same xs e p ∙ f) ∙ sym (refused-then _ _ r f)

pub record Alike (n : ℕ) (xs : List ℕ) (e p : ℕ) : Type 0 where
  pub place : after n (take e xs) p ≡ after n xs p
  pub links : links_at n (take e xs) p ≡ links_at n xs p

pub links-alike : (n : ℕ) (xs : List ℕ) (e p : ℕ) → links_verdict n xs e p ≡ Fine → Alike n xs e p
links-alike zero xs e p v = record { place = refl; links = refl }
links-alike (suc n) xs e p v =
    let two = then-fine (entry_verdict xs e p) _ v in
    let rest = links-alike n xs e (block_end xs p) two.1 in
    let end = end_same xs e p two.0 in
    let w = (entry-passed xs e p two.0).within in
    let link : link_in (take e xs) p ≡ link_in xs p = λ i. link_at (beside_same xs e p (omega arith) i) (body_same xs e p w i) in
    record {
      place = ap (after n (take e xs)) end ∙ rest.place;
      links = λ i. link i ∷ (ap (links_at n (take e xs)) end ∙ rest.links) i;
    }
