-- What the private stages answer, case by case, over plain lists: the code's returns cite these.
-- Assumes nothing.
use mathlib.Core.Path.{◌≡◌, refl, sym, ap, ◌∙◌}
use Prim.Native.Nat.{ℕ, ◌+◌, ◌-◌, ◌≤◌, ◌<◌}
use native.Mathlib.Omega.{arith}
use mathlib.Core.Bool.{Bool, true, false, not}
use mathlib.Core.List.{List}
use lib.ListN.{length, get_or, take, drop, length-drop}
use borrow.Author.Tests.{lt-ltb, le-ltb, not-true, not-false}
use Rattle.field.specs.Fields.{low, number_items}
use Rattle.length_field.specs.Lengths.{length_field, last_rows, last_verdict}
use Rattle.length_field.specs.declared.LengthField.{LengthField}
use Rattle.length_field.proofs.Blocks.{last-cut, last-left}
use Rattle.wire.specs.Refusals.{body_too_short, uri_length_cut, uri_cut, no_locator, item_count_cut, icon_cut, descriptors_too_long, link_slack}
use Rattle.wire.specs.Verdict.{refuse, reached, ◌▷◌, Fine, Verdict}
use Rattle.wire.specs.declared.verdict.Refusal.{Refusal}
use Rattle.wire.proofs.Lists.{rest_part}
use Rattle.wire.proofs.Verdicts.{go_on, refused-then, then-fine, then-assoc, pass-ltb, passed-ltb, reached-at, reached-refused, at-reached, refused-reached}
use Rattle.locator.specs.Reading.{locator_size}
use Rattle.locator.proofs.Answers.{size-had, size-read, size-refused}
use Rattle.link.specs.Syntax.{head_length, count_length, uri_due, locator_due}
use Rattle.link.specs.Reading.{type_at, uri_start, uri_end_place, uri_verdict, locator_rows, count_place, items_place, count_verdict, item_count, item_place, items_verdict, tail_place, front_verdict, rest_verdict, body_verdict}
use Rattle.link.proofs.Bounds.{uri-within, place-within}
use Rattle.link_walker.specs.Stages.{uri_rows, locator_row, locator_end, tail_rows, rest_rows}
use Rattle.link_walker.proofs.Places.{Found}
use Rattle.std.specs.Prelude.{Err, Ok, Result}

-- what the answer of a stage says
pub came-at : (v : Verdict) (p q : ℕ) (a : Result ℕ Refusal) → a ≡ reached v p → a ≡ Ok q → (v ≡ Fine) × (q ≡ p)
came-at v p q a e h = let g = reached-at v p q (sym e ∙ h) in (g.0, sym g.1)

pub came_refused : (v : Verdict) (p : ℕ) (a : Result ℕ Refusal) (r : Refusal) → a ≡ reached v p → a ≡ Err r → v ≡ Err r
came_refused v p a r e h = reached-refused v p r (sym e ∙ h)

-- what the code asked of the link type, answered of the body
pub due : (f : ℕ → Bool) (xs : List ℕ) (t : ℕ) (b : Bool) → t ≡ type_at xs → b ≡ f t → b ≡ true → f (type_at xs) ≡ true
due f xs t b e q h = ap f (sym e) ∙ sym q ∙ h

pub not-due : (f : ℕ → Bool) (xs : List ℕ) (t : ℕ) (b : Bool) → t ≡ type_at xs → b ≡ f t → b ≡ false → f (type_at xs) ≡ false
not-due f xs t b e q h = ap f (sym e) ∙ sym q ∙ h

module _ (xs : List ℕ) where
  -- ---- the first four bytes and the URI

  pub uri-6 : length xs < head_length → Err (record { number = body_too_short; first = head_length; second = length xs }) ≡ reached (uri_rows xs) (uri_end_place xs)
  unfolding uri_rows refuse ◌▷◌ reached
  uri-6 h = rw (lt-ltb _ _ h)

  pub uri-none : head_length ≤ length xs → uri_due (type_at xs) ≡ false → Ok head_length ≡ reached (uri_rows xs) (uri_end_place xs)
  unfolding uri_rows uri_verdict refuse ◌▷◌ reached
  uri-none h e = rw (le-ltb _ _ h, e)

  pub uri-7 : head_length ≤ length xs → uri_due (type_at xs) ≡ true → length xs < uri_start
      → Err (record { number = uri_length_cut; first = uri_start; second = length xs }) ≡ reached (uri_rows xs) (uri_end_place xs)
  unfolding uri_rows uri_verdict refuse ◌▷◌ reached
  uri-7 h e k = rw (le-ltb _ _ h, e, lt-ltb _ _ k)

  pub uri-8 : uri_due (type_at xs) ≡ true → uri_start ≤ length xs → length xs < uri_start + get_or xs head_length 0
      → Err (record { number = uri_cut; first = uri_start + get_or xs head_length 0; second = length xs }) ≡ reached (uri_rows xs) (uri_end_place xs)
  unfolding uri_rows uri_verdict refuse ◌▷◌ reached
  uri-8 e h k = let four : head_length ≤ length xs = omega arith in rw (le-ltb _ _ four, e, le-ltb _ _ h, lt-ltb _ _ k)

  pub uri-past : uri_due (type_at xs) ≡ true → uri_start ≤ length xs → uri_start + get_or xs head_length 0 ≤ length xs
      → Ok (uri_start + get_or xs head_length 0) ≡ reached (uri_rows xs) (uri_end_place xs)
  unfolding uri_rows uri_verdict refuse ◌▷◌ reached
  uri-past e h k = let four : head_length ≤ length xs = omega arith in rw (le-ltb _ _ four, e, le-ltb _ _ h, le-ltb _ _ k)

  pub uri-known : uri_rows xs ≡ Fine → (head_length ≤ length xs) × (uri_end_place xs ≤ length xs)
  unfolding uri_rows
  uri-known v =
      let two = then-fine _ (uri_verdict xs) v in
      let four : head_length ≤ length xs = passed-ltb (length xs) head_length _ _ _ two.0 in
      (four, uri-within xs four two.1)

  -- ---- the locator

  module _ (p : ℕ) (a : Result ℕ Refusal) (e : a ≡ locator_size (take (length xs - p) (drop p xs))) where
    taken : (b : Result ℕ Refusal) → a ≡ b → locator_size (drop p xs) ≡ b
    taken b q = ap locator_size (sym (rest_part xs p)) ∙ sym e ∙ q

    pub locator-past : (n : ℕ) → a ≡ Ok n → Ok (p + n) ≡ reached (locator_row xs p) (locator_end xs p)
    unfolding locator_row locator_end reached
    locator-past n q = rw (size-read (drop p xs) n (taken _ q))

    pub locator-10 : (r : Refusal) → a ≡ Err r → Err r ≡ reached (locator_row xs p) (locator_end xs p)
    unfolding locator_row reached
    locator-10 r q = rw (size-refused (drop p xs) r (taken _ q))

    pub locator-within : (n : ℕ) → p ≤ length xs → a ≡ Ok n → p + n ≤ length xs
    locator-within n h q = let s = size-had (drop p xs) n (taken _ q) in omega (arith, s.used, s.there, length-drop p xs)

  pub place_none : locator_due (type_at xs) ≡ false → Ok (uri_end_place xs) ≡ reached (locator_rows xs) (count_place xs)
  unfolding locator_rows reached
  place_none e = rw e

  pub place-9 : locator_due (type_at xs) ≡ true → length xs < uri_end_place xs + 1
      → Err (record { number = no_locator; first = uri_end_place xs + 1; second = length xs }) ≡ reached (locator_rows xs) (count_place xs)
  unfolding locator_rows refuse ◌▷◌ reached
  place-9 e h = rw (e, lt-ltb _ _ h)

  pub place-past : locator_due (type_at xs) ≡ true → uri_end_place xs + 1 ≤ length xs
      → reached (locator_row xs (uri_end_place xs)) (locator_end xs (uri_end_place xs)) ≡ reached (locator_rows xs) (count_place xs)
  unfolding locator_row locator_end locator_rows refuse ◌▷◌
  place-past e h = rw (e, le-ltb _ _ h)

  -- ---- what a body ends with

  module _ (p : ℕ) where
    pub tail-14 : length xs < p + 2 → Err (record { number = icon_cut; first = p + 2; second = length xs }) ≡ reached (tail_rows xs p) p
    unfolding tail_rows
    tail-14 h = refused-reached _ _ _ (last-cut icon_cut descriptors_too_long link_slack xs (length xs) p h)

    module _ (h : p + 2 ≤ length xs) (f : LengthField) (v : Verdict) (e : f ≡ length_field (get_or xs p 0) (get_or xs (p + 1) 0)) (w : v ≡ last_rows descriptors_too_long link_slack f.length (length xs - (p + 2))) where
      ends : tail_rows xs p ≡ v
      unfolding tail_rows
      ends = last-left icon_cut descriptors_too_long xs (length xs) p h link_slack ∙ sym (rw e at w)

      pub tail-refused : (r : Refusal) → v ≡ Err r → Err r ≡ reached (tail_rows xs p) p
      tail-refused r q = refused-reached _ _ _ (ends ∙ q)

      pub tail-past : v ≡ Fine → Ok p ≡ reached (tail_rows xs p) p
      tail-past q = at-reached _ _ _ (ends ∙ q) refl

  -- ---- the rest of a body

  pub rest-11 : length xs < items_place xs → Err (record { number = item_count_cut; first = items_place xs; second = length xs }) ≡ reached (rest_rows xs) (tail_place xs)
  unfolding rest_rows count_verdict refuse ◌▷◌ reached
  rest-11 h = rw (lt-ltb _ _ h)

  -- the items that the code walks over are those that the body's number says
  module _ (p n : ℕ) (a : Result ℕ Refusal) (e : p ≡ count_place xs) (k : n ≡ low number_items (get_or xs p 0)) (w : a ≡ reached (items_verdict n xs (p + count_length)) (item_place n xs (p + count_length))) where
    counted : reached (items_verdict (item_count xs) xs (items_place xs)) (tail_place xs) ≡ a
    counted = rw (k, e) at (sym w)

    pub counted-at : (t : ℕ) → a ≡ Ok t → (items_verdict (item_count xs) xs (items_place xs) ≡ Fine) × (tail_place xs ≡ t)
    counted-at t q = reached-at _ _ _ (counted ∙ q)

    pub counted-refused : (r : Refusal) → a ≡ Err r → items_verdict (item_count xs) xs (items_place xs) ≡ Err r
    counted-refused r q = reached-refused _ _ _ (counted ∙ q)

  module _ (h : items_place xs ≤ length xs) where
    numbered : rest_rows xs ≡ rest_verdict xs
    unfolding rest_rows count_verdict
    numbered = go_on _ (rest_verdict xs) (pass-ltb (length xs) (items_place xs) _ _ _ h)

    pub rest-stop : (r : Refusal) → items_verdict (item_count xs) xs (items_place xs) ≡ Err r → Err r ≡ reached (rest_rows xs) (tail_place xs)
    unfolding rest_verdict tail_rows
    rest-stop r v = refused-reached _ _ _ (numbered ∙ refused-then _ (tail_rows xs (tail_place xs)) r v)

    pub rest-tail : (t : ℕ) → items_verdict (item_count xs) xs (items_place xs) ≡ Fine → tail_place xs ≡ t → reached (tail_rows xs t) t ≡ reached (rest_rows xs) (tail_place xs)
    unfolding rest_verdict tail_rows
    rest-tail t v q = rw (← q) (ap (λ w. reached w (tail_place xs)) (sym (numbered ∙ go_on _ (tail_rows xs (tail_place xs)) v)))

  -- ---- the stages together

  body-rows : body_verdict xs ≡ uri_rows xs ▷ (locator_rows xs ▷ rest_rows xs)
  unfolding body_verdict front_verdict uri_rows rest_rows
  body-rows = simp then-assoc

  -- the first stage answered a
  module _ (a : Result ℕ Refusal) (e : a ≡ reached (uri_rows xs) (uri_end_place xs)) where
    pub stop-uri : (r : Refusal) → a ≡ Err r → body_verdict xs ≡ Err r
    stop-uri r q = body-rows ∙ refused-then _ _ r (came_refused _ _ a r e q)

    -- a place, and the second stage b
    module _ (u : ℕ) (g : a ≡ Ok u) (b : Result ℕ Refusal) (f : b ≡ reached (locator_rows xs) (count_place xs)) where
      came : (uri_rows xs ≡ Fine) × (u ≡ uri_end_place xs)
      came = came-at _ _ u a e g

      pub stop-locator : (r : Refusal) → b ≡ Err r → body_verdict xs ≡ Err r
      stop-locator r q = body-rows ∙ go_on _ _ came.0 ∙ refused-then _ _ r (came_refused _ _ b r f q)

      -- a place too
      module _ (p : ℕ) (h : b ≡ Ok p) where
        counted-from : (locator_rows xs ≡ Fine) × (p ≡ count_place xs)
        counted-from = came-at _ _ p b f h

        pub front-past : (p ≡ count_place xs) × (p ≤ length xs)
        front-past =
            let k = counted-from in
            (k.1, rw k.1 (place-within xs (uri-known came.0).1 k.0))

        -- and the third stage d
        module _ (d : Result ℕ Refusal) (w : d ≡ reached (rest_rows xs) (tail_place xs)) where
          body-rest : body_verdict xs ≡ rest_rows xs
          body-rest = body-rows ∙ go_on _ _ came.0 ∙ go_on _ _ counted-from.0

          pub stop-rest : (r : Refusal) → d ≡ Err r → body_verdict xs ≡ Err r
          stop-rest r q = body-rest ∙ came_refused _ _ d r w q

          pub body-past : (t : ℕ) → d ≡ Ok t → Found xs u p t
          body-past t q =
              let k = came-at _ _ t d w q in
              record { fine = body-rest ∙ k.0; uri = came.1; count = counted-from.1; tail = k.1 }
