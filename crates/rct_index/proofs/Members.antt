-- The sets: link k is in a set exactly if it has the property, the count is the number of links that have it, and what an edit makes of the sets of the old links are the sets of the new ones.
-- Assumes nothing.
use Prim.Native.Nat.{ℕ, ◌≤◌, ◌<◌}
use mathlib.Core.Path.{◌≡◌}
use mathlib.Core.Bool.{Bool, false}
use mathlib.Core.List.{List, [], ◌∷◌, ◌++◌}
use native.Mathlib.Omega.{arith}
use lib.ListN.{length, get_or, set, length-map}
use Rattle.number_set.specs.Members.{size, members, of_members, trues, is_member}
use Rattle.number_set.specs.declared.NumberSet.{NumberSet}
use Rattle.number_set.proofs.Sets.{of_at, of-map-set, of-map-more}
use Rattle.number_set.proofs.Counts.{count_of}
use Rattle.link.specs.Syntax.{Link}
use Rattle.rct_index.specs.Index.{link_marks, having, sets_of, told, with_marks}
use Rattle.rct_index.specs.declared.LinkMarks.{LinkMarks}
use Rattle.rct_index.specs.declared.LinkSets.{LinkSets}

-- ---- one property, whichever of the three

-- a set of the three, and the property that it is of
pub record Property : Type 0 where
  pub of : LinkMarks → Bool
  pub from : LinkSets → NumberSet

abbrev pub by_uri : Property
by_uri = record { of = λ (m : LinkMarks). m.uri; from = λ (s : LinkSets). s.uri }

abbrev pub by_locator : Property
by_locator = record { of = λ (m : LinkMarks). m.locator; from = λ (s : LinkSets). s.locator }

abbrev pub by_icon : Property
by_icon = record { of = λ (m : LinkMarks). m.icon; from = λ (s : LinkSets). s.icon }

-- what sets tell of a property: by number whether the link has it, none past the last link, and in all how many links have it
pub record Told (p : Property) (s : LinkSets) (ls : List Link) : Type 0 where
  pub in_set : (k : ℕ) → is_member (p.from s) k ≡ get_or (having p.of ls) k false
  pub count : trues (members (p.from s)) ≡ trues (having p.of ls)

module _ (has : LinkMarks → Bool) (ls : List Link) (n : length ls ≤ size) where
  few : length (having has ls) ≤ size
  few = omega (arith, length-map ls (λ (l : Link). has (link_marks l)))

  in_set : (k : ℕ) → get_or (members (of_members (having has ls))) k false ≡ get_or (having has ls) k false
  in_set k = of_at (having has ls) k few

  counted : trues (members (of_members (having has ls))) ≡ trues (having has ls)
  counted = count_of (having has ls) few

pub uri-tells : (ls : List Link) → length ls ≤ size → Told by_uri (sets_of ls) ls
unfolding sets_of
uri-tells ls n = record { in_set = in_set by_uri.of ls n; count = counted by_uri.of ls n }

pub locator-tells : (ls : List Link) → length ls ≤ size → Told by_locator (sets_of ls) ls
unfolding sets_of
locator-tells ls n = record { in_set = in_set by_locator.of ls n; count = counted by_locator.of ls n }

pub icon-tells : (ls : List Link) → length ls ≤ size → Told by_icon (sets_of ls) ls
unfolding sets_of
icon-tells ls n = record { in_set = in_set by_icon.of ls n; count = counted by_icon.of ls n }

-- ---- told anew: link k is another one, and there is a link more

pub sets-with : (ls : List Link) (k : ℕ) (l : Link) → k < length ls → with_marks (sets_of ls) k (link_marks l) ≡ sets_of (set ls k l)
unfolding with_marks sets_of
sets-with ls k l h = λ i. record { uri = by by_uri.of i; locator = by by_locator.of i; icon = by by_icon.of i }
  where
    by : (has : LinkMarks → Bool) → told (of_members (having has ls)) k (has (link_marks l)) ≡ of_members (having has (set ls k l))
    by has = of-map-set (λ (m : Link). has (link_marks m)) ls k l h

pub sets_more : (ls : List Link) (l : Link) → length ls < size → with_marks (sets_of ls) (length ls) (link_marks l) ≡ sets_of (ls ++ l ∷ [])
unfolding with_marks sets_of
sets_more ls l h = λ i. record { uri = by by_uri.of i; locator = by by_locator.of i; icon = by by_icon.of i }
  where
    by : (has : LinkMarks → Bool) → told (of_members (having has ls)) (length ls) (has (link_marks l)) ≡ of_members (having has (ls ++ l ∷ []))
    by has = of-map-more (λ (m : Link). has (link_marks m)) ls l h
