-- A record's items, filled one by one from the body: what a turn of the loop leaves.
-- Assumes nothing.
use mathlib.Core.Path.{◌≡◌, refl, sym, ap, ◌∙◌}
use Prim.Native.Nat.{ℕ, zero, suc, ◌+◌, ◌-◌, ◌<◌}
use native.Mathlib.Omega.{arith}
use native.Mathlib.Numerals.{add-one}
use mathlib.Core.List.{List, [], ◌∷◌, ◌++◌, append_assoc}
use lib.ListN.{length, set, replicate}
use lib.Seq.{set_at}
use Rattle.link.specs.Reading.{item_end, item_place}
use Rattle.link.specs.Records.{no_item, filled, item_info, item_infos}
use Rattle.link.specs.declared.LinkItem.{LinkItem}

pub length-infos : (base n : ℕ) (xs : List ℕ) (p : ℕ) → length (item_infos base n xs p) ≡ n
unfolding item_infos
length-infos base zero xs p = refl
length-infos base (suc n) xs p = ap suc (length-infos base n xs (item_end xs p))

pub infos-snoc : (base n : ℕ) (xs : List ℕ) (p : ℕ) → item_infos base (suc n) xs p ≡ item_infos base n xs p ++ item_info base xs (item_place n xs p) ∷ []
unfolding item_infos
infos-snoc base zero xs p = refl
infos-snoc base (suc n) xs p = ap (λ l. item_info base xs p ∷ l) (infos-snoc base n xs (item_end xs p))

pub place-snoc : (n : ℕ) (xs : List ℕ) (p : ℕ) → item_place (n + 1) xs p ≡ item_end xs (item_place n xs p)
place-snoc n xs p = ap (λ k. item_place k xs p) (add-one n) ∙ go n p
  where
    go : (n p : ℕ) → item_place (suc n) xs p ≡ item_end xs (item_place n xs p)
    go zero p = refl
    go (suc n) p = go n (item_end xs p)

-- item i is stored behind those before it
pub filled_more : (base i : ℕ) (xs : List ℕ) (p : ℕ) → i < 63
    → set (filled (item_infos base i xs p)) i (item_info base xs (item_place i xs p)) ≡ filled (item_infos base (i + 1) xs p)
filled_more base i xs p h =
    ap (λ k. set (is ++ replicate k no_item) i x) left
    ∙ set_at is no_item (replicate (62 - i) no_item) x i (length-infos base i xs p)
    ∙ sym (append_assoc is (x ∷ []) (replicate (62 - i) no_item))
    ∙ ap (λ l. l ++ replicate (62 - i) no_item) (sym next)
    ∙ ap (λ k. item_infos base (i + 1) xs p ++ replicate k no_item) right
  where
    is : List LinkItem
    is = item_infos base i xs p

    x : LinkItem
    x = item_info base xs (item_place i xs p)

    left : 63 - length is ≡ suc (62 - i)
    left = omega (arith, length-infos base i xs p)

    next : item_infos base (i + 1) xs p ≡ is ++ x ∷ []
    next = ap (λ k. item_infos base k xs p) (add-one i) ∙ infos-snoc base i xs p

    right : 62 - i ≡ 63 - length (item_infos base (i + 1) xs p)
    right = omega (arith, length-infos base (i + 1) xs p)
