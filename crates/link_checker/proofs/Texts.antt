-- The walk over the counted items: what was found so far, joined with what is left to find, is the whole. And how the
-- answer is made of what its stages found.
-- Assumes nothing.
use Prim.Native.Nat.{ℕ, ◌+◌, ◌≤◌, ◌<◌}
use mathlib.Core.Path.{◌≡◌, refl, sym, ap, ◌∙◌}
use mathlib.Core.List.{List, [], ◌∷◌}
use native.Mathlib.Omega.{arith}
use lib.ListN.{length, drop, get_or, drop_of_length-le}
use Rattle.field.specs.Fields.{text_length}
use Rattle.wire.specs.Verdict.{◌▷◌, Verdict}
use Rattle.wire.proofs.Verdicts.{then-assoc, then-nothing}
use Rattle.link.specs.Syntax.{item_head}
use Rattle.link.specs.Records.{items_of}
use Rattle.link.specs.declared.LinkItem.{LinkItem}
use Rattle.link.specs.declared.LinkInfo.{LinkInfo}
use Rattle.link_draft.specs.Checks.{first_in, check_fields, check_ranges, check_link, link_checked}
use Rattle.link_draft.specs.Lengths.{items_size, link_length}
use Rattle.link_draft.specs.declared.LinkChecked.{LinkChecked}
use Rattle.std.proofs.lemmas.List.{drop_more}
use Rattle.link_checker.specs.Stages.{no_ranges, joined, range_checked, texts_checked, all_checked}
use Rattle.link_checker.specs.declared.RangesChecked.{RangesChecked}

none-joined : (a : RangesChecked) → joined no_ranges a ≡ a
unfolding ◌▷◌
none-joined a = let n : 0 + a.length ≡ a.length = omega arith in λ i. record { narrow = a.narrow; within = a.within; length = n i }

joined-none : (a : RangesChecked) → joined a no_ranges ≡ a
joined-none a =
    let n : a.length + 0 ≡ a.length = omega arith in
    λ i. record { narrow = then-nothing a.narrow _ refl i; within = then-nothing a.within _ refl i; length = n i }

joined-assoc : (a b c : RangesChecked) → joined (joined a b) c ≡ joined a (joined b c)
joined-assoc a b c =
    let n : a.length + b.length + c.length ≡ a.length + (b.length + c.length) = omega arith in
    λ i. record { narrow = then-assoc a.narrow b.narrow c.narrow i; within = then-assoc a.within b.within c.within i; length = n i }

-- ---- the texts

texts-cons : (have : ℕ) (x : LinkItem) (xs : List LinkItem) → texts_checked have (x ∷ xs) ≡ joined (range_checked have item_head text_length x.promotional_text) (texts_checked have xs)
unfolding texts_checked first_in items_size
texts-cons have x xs = refl

texts-nil : (have : ℕ) → texts_checked have [] ≡ no_ranges
unfolding texts_checked first_in items_size
texts-nil have = refl

pub texts-start : (have : ℕ) (xs : List LinkItem) → joined no_ranges (texts_checked have xs) ≡ texts_checked have xs
texts-start have xs = none-joined (texts_checked have xs)

module _ (have : ℕ) (xs : List LinkItem) (i : ℕ) (found all : RangesChecked) (inv : joined found (texts_checked have (drop i xs)) ≡ all) where
  pub texts-on : (d : LinkItem) → i < length xs
      → joined (joined found (range_checked have item_head text_length (get_or xs i d).promotional_text)) (texts_checked have (drop (i + 1) xs)) ≡ all
  texts-on d h =
      let x = get_or xs i d in
      let rest = drop (i + 1) xs in
      joined-assoc found (range_checked have item_head text_length x.promotional_text) (texts_checked have rest)
      ∙ ap (joined found) (sym (texts-cons have x rest) ∙ sym (ap (texts_checked have) (drop_more xs i d h)))
      ∙ inv

  pub texts-done : length xs ≤ i → found ≡ all
  texts-done h = sym (joined-none found) ∙ ap (joined found) (sym (texts-nil have) ∙ sym (ap (texts_checked have) (drop_of_length-le xs {i = i} h))) ∙ inv

-- ---- the answer

pub answer-of : (v : Verdict) (n : ℕ) (r : LinkChecked) → v ≡ r.verdict → n ≡ r.length → record { verdict = v; length = n } ≡ r
answer-of v n r p q i = record { verdict = p i; length = q i }

pub all-checked : (t : List ℕ) (k : LinkInfo) → all_checked (length t) k.fields (texts_checked (length t) (items_of k)) ≡ link_checked t k
unfolding all_checked texts_checked link_checked check_link check_fields check_ranges link_length
all-checked t k = refl
