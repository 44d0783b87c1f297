-- The order of refusals of link and item by number (docs/REFUSALS.md): those of the plain reading, then 21 for the link, then for the item.
-- Exactly when each refusal is answered, and of an item what is answered in each case.
-- Assumes nothing.
use Prim.Native.Nat.{ℕ, ◌≤◌, ◌<◌}
use mathlib.Core.Path.{◌≡◌, refl, sym, ◌∙◌}
use mathlib.Core.Logic.{◌↔◌}
use mathlib.Core.Bool.{true}
use mathlib.Core.List.{List, [], ◌∷◌}
use Rattle.wire.specs.Refusals.{no_such_number}
use Rattle.wire.specs.Verdict.{bad, Fine, Verdict, verdict_of}
use Rattle.wire.specs.declared.verdict.Refusal.{Refusal}
use Rattle.wire.proofs.Among.{listed, among-never, never-past, never-behind, listed-apart}
use Rattle.wire.proofs.Verdicts.{then-fine, go_on, stop, refused-then, row-says, broken-leb, break-leb, pass-leb}
use Rattle.link.specs.Reading.{item_count}
use Rattle.link.specs.Answers.{link_answer, item_row, item_in, item_answer}
use Rattle.link.specs.declared.LinkInfo.{LinkInfo}
use Rattle.rct.specs.Reading.{count_at, plain, number_row}
use Rattle.rct.proofs.Checked.{number_passed}
use Rattle.rct.proofs.Listed.{plain_reading, plain-listed, number-listed}
use Rattle.rct_bodies.specs.Bodies.{link_rows, body_place, body_of}
use Rattle.rct_bodies.proofs.Bodies.{rows-stop, rows-21, rows-fine}
use Rattle.rct_links.specs.Links.{numbered_link, numbered_item}
use Rattle.std.specs.Prelude.{Err, Ok}

module _ (xs : List ℕ) (k : ℕ) where
  link-verdict : verdict_of (numbered_link xs k) ≡ link_rows xs k
  unfolding numbered_link link_answer
  link-verdict = by (link_rows xs k) _
    where
      by : (v : Verdict) (i : LinkInfo) → verdict_of (link_answer v i) ≡ v
      by (Ok _) i = refl
      by (Err r) i = refl

  -- ---- link k

  -- 1 to 19: exactly if the plain reading answers it, whatever the number
  pub link-reading : (n f g : ℕ) → listed n plain_reading ≡ true → ((verdict_of (numbered_link xs k)) ≡ bad n f g) ↔ (plain xs ≡ bad n f g)
  unfolding link_rows
  link-reading n f g h =
      rw link-verdict
      (never-behind n f g (plain xs) _ (among-never (no_such_number ∷ []) _ n (number-listed xs k) (listed-apart plain_reading (no_such_number ∷ []) n refl h)), stop (plain xs) _ n f g)

  -- 21 (f, g): the section is read, and has no link k
  pub record NoSuchLink (f g : ℕ) : Type 0 where
    pub section : plain xs ≡ Fine
    pub past : count_at xs ≤ k
    pub figures : (f ≡ k) × (g ≡ count_at xs)

  pub link-number : (f g : ℕ) → ((verdict_of (numbered_link xs k)) ≡ bad no_such_number f g) ↔ NoSuchLink f g
  unfolding link_rows number_row
  link-number f g = rw link-verdict (to, from)
    where
      to : link_rows xs k ≡ bad no_such_number f g → NoSuchLink f g
      to e =
          let two = never-past no_such_number f g (plain xs) (number_row xs k) (among-never plain_reading _ no_such_number (plain-listed xs) refl) e in
          let says = (row-says _ _ _ _ _ f g two.1).1 in
          record { section = two.0; past = broken-leb _ _ _ _ _ _ f g two.1; figures = (sym says.0, sym says.1) }

      from : NoSuchLink f g → link_rows xs k ≡ bad no_such_number f g
      from n = rw (n.figures.0, n.figures.1) (rows-21 xs k n.section n.past)

  -- none: the section is read, and has a link k
  pub link-found : ((verdict_of (numbered_link xs k)) ≡ Fine) ↔ ((plain xs ≡ Fine) × (k < count_at xs))
  unfolding link_rows
  link-found =
      rw link-verdict
      ((λ e. let two = then-fine (plain xs) (number_row xs k) e in (two.0, number_passed xs k two.1)), λ t. rows-fine xs k t.0 t.1)

  -- ---- item i of link k: one of four cases

  module _ (i : ℕ) where
    abbrev items : ℕ
    items = item_count (body_of xs k)

    -- the section is refused, whatever the numbers
    pub item-unread : (r : Refusal) → plain xs ≡ Err r → numbered_item xs k i ≡ Err r
    unfolding numbered_item item_answer
    item-unread r e = rw (refused-then (link_rows xs k) (item_row (body_of xs k) i) r (rows-stop xs k r e))

    module _ (read : plain xs ≡ Fine) where
      -- it has no link k, whatever the item
      pub item-no-link : count_at xs ≤ k → numbered_item xs k i ≡ Err (record { number = no_such_number; first = k; second = count_at xs })
      unfolding numbered_item item_answer
      item-no-link h = rw (refused-then (link_rows xs k) (item_row (body_of xs k) i) _ (rows-21 xs k read h))

      -- link k has no item i
      pub item-no-item : k < count_at xs → items ≤ i → numbered_item xs k i ≡ Err (record { number = no_such_number; first = i; second = items })
      unfolding numbered_item item_answer item_row
      item-no-item h l = rw (go_on (link_rows xs k) (item_row (body_of xs k) i) (rows-fine xs k read h) ∙ break-leb _ _ _ _ _ l)

      -- it has one
      pub item-found : k < count_at xs → i < items → numbered_item xs k i ≡ Ok (item_in (body_place xs k) (body_of xs k) i)
      unfolding numbered_item item_answer item_row
      item-found h l = rw (go_on (link_rows xs k) (item_row (body_of xs k) i) (rows-fine xs k read h) ∙ pass-leb _ _ _ _ _ l)
