-- What the rows of a body leave known of its places, and how far these can lie.
-- Assumes nothing.
use mathlib.Core.Path.{◌≡◌, refl, sym, ◌∙◌}
use mathlib.Core.Logic.{inl, inr}
use Prim.Native.Nat.{ℕ, zero, suc, ◌+◌, ◌*◌, ◌≤◌, ◌<◌}
use native.Mathlib.Omega.{arith}
use mathlib.Core.Bool.{Bool, true, false}
use mathlib.Core.List.{List}
use lib.Dec.{ltb}
use lib.ListN.{length, get_or, drop, length-drop}
use Rattle.wire.specs.Choice.{pick}
use Rattle.wire.specs.Lists.{Bytes}
use Rattle.length_field.specs.Lengths.{block_end}
use borrow.Author.Tests.{le-leb}
use Rattle.wire.specs.Refusals.{uri_length_cut, uri_cut, no_locator, icon_cut, descriptors_too_long, link_slack, no_such_number}
use Rattle.wire.specs.Verdict.{refuse, ◌▷◌, Fine, Verdict}
use Rattle.wire.specs.declared.verdict.Refusal.{Refusal}
use Rattle.wire.proofs.Lists.{bytes-at}
use Rattle.length_field.proofs.Blocks.{last-passed}
use Rattle.wire.proofs.Verdicts.{then-fine, fine-then, passed-ltb, pass-ltb, passed-leb, pass-leb, go_on, refused-then}
use Rattle.locator.specs.Reading.{read_locator, got_locator}
use Rattle.locator.specs.declared.DvbBinaryLocator.{DvbBinaryLocator}
use Rattle.locator.proofs.Answers as locator
use Rattle.locator.specs.Syntax.{longest_locator}
use Rattle.locator.proofs.Sizes.{OneOf, lengths, used-eight}
use Rattle.field.specs.Fields.{uri_length, number_items, text_length}
use Rattle.link.specs.Syntax.{head_length, count_length, language_length, item_head, uri_due, locator_due}
use Rattle.link.specs.Reading.{type_at, uri_start, uri_end_place, locator_in, locator_said, locator_used, count_place, items_place, item_count, item_end, item_place, tail_place, item_verdict, items_verdict, uri_verdict, locator_rows, count_verdict, front_verdict, rest_verdict, body_verdict}
use Rattle.link.specs.Records.{no_link, item_info}
use Rattle.link.specs.Answers.{link_answer, item_rows, item_answer, item_read, item_row}
use Rattle.link.specs.declared.LinkItem.{LinkItem}
use Rattle.link.specs.declared.LinkInfo.{LinkInfo}
use Rattle.link.proofs.Items.{item-passed}
use Rattle.locator.specs.declared.reading.LocatorRead.{LocatorRead}
use Rattle.std.specs.Prelude.{Err, Ok, Result}

-- ---- what passed rows leave known: the places lie within

module _ (xs : List ℕ) where
  pub uri-within : head_length ≤ length xs → uri_verdict xs ≡ Fine → uri_end_place xs ≤ length xs
  unfolding uri_verdict
  uri-within h v = go (uri_due (type_at xs)) v
    where
      end : ℕ
      end = uri_start + get_or xs head_length 0

      go : (t : Bool) → pick t (refuse (ltb (length xs) uri_start) uri_length_cut uri_start (length xs) ▷ refuse (ltb (length xs) end) uri_cut end (length xs)) Fine ≡ Fine
          → pick t end head_length ≤ length xs
      go true v = passed-ltb (length xs) end _ _ _ (then-fine _ _ v).1
      go false v = h

  pub place-used : (l : DvbBinaryLocator) (n : ℕ) → locator_in xs ≡ got_locator l n → uri_end_place xs ≤ length xs → uri_end_place xs + n ≤ length xs
  place-used l n e h = omega (arith, locator.used_le (drop (uri_end_place xs) xs) l n e, length-drop (uri_end_place xs) xs)

  pub place-within : uri_end_place xs ≤ length xs → locator_rows xs ≡ Fine → count_place xs ≤ length xs
  unfolding locator_rows
  place-within h v = go (locator_due (type_at xs)) (locator_in xs) refl v
    where
      go : (t : Bool) (a : Result LocatorRead Refusal) → locator_in xs ≡ a
          → pick t (refuse (ltb (length xs) (uri_end_place xs + 1)) no_locator (uri_end_place xs + 1) (length xs) ▷ locator_said a) Fine ≡ Fine
          → pick t (uri_end_place xs + locator_used a) (uri_end_place xs) ≤ length xs
      go false a e v = h
      go true (Ok got) e v = place-used got.locator got.used e h
      go true (Err r) e v = let z : ◌≡◌ {A = ℕ} 0 1 = (let q = (then-fine _ _ v).1 in cc) in absurd (omega arith)

  pub front-within : front_verdict xs ≡ Fine → count_place xs < length xs
  unfolding front_verdict count_verdict
  front-within v =
      let a = then-fine _ _ v in
      let b = then-fine (uri_verdict xs) _ a.1 in
      omega (arith, passed-ltb (length xs) (items_place xs) _ _ _ (then-fine (locator_rows xs) _ b.1).1)

-- items that are passed lie within
pub items-within : (n : ℕ) (xs : List ℕ) (p : ℕ) → p ≤ length xs → items_verdict n xs p ≡ Fine → item_place n xs p ≤ length xs
unfolding items_verdict
items-within zero xs p h v = h
items-within (suc n) xs p h v =
    let two = then-fine (item_verdict xs p) _ v in
    items-within n xs (item_end xs p) (item-passed xs p two.0) two.1

-- so are those before a number of them
pub items-before : (n k : ℕ) (xs : List ℕ) (p : ℕ) → k ≤ n → items_verdict n xs p ≡ Fine → items_verdict k xs p ≡ Fine
unfolding items_verdict
items-before n zero xs p h v = refl
items-before zero (suc k) xs p h v = absurd (omega arith)
items-before (suc n) (suc k) xs p h v =
    let two = then-fine (item_verdict xs p) _ v in
    fine-then _ _ two.0 (items-before n k xs (item_end xs p) (omega arith) two.1)

-- an item before the last lies within
pub item-within : (n k : ℕ) (xs : List ℕ) (p : ℕ) → k < n → p ≤ length xs → items_verdict n xs p ≡ Fine → item_end xs (item_place k xs p) ≤ length xs
unfolding items_verdict
item-within zero k xs p h l v = absurd (omega arith)
item-within (suc n) zero xs p h l v = item-passed xs p (then-fine (item_verdict xs p) _ v).0
item-within (suc n) (suc k) xs p h l v =
    let two = then-fine (item_verdict xs p) _ v in
    item-within n k xs (item_end xs p) (omega arith) (item-passed xs p two.0) two.1

-- ---- how far they can lie

-- behind the fields, a URI, a locator and the items' number, and as many items as that can say, each as long as it can be
abbrev pub farthest : ℕ
farthest = uri_start + uri_length.widest + longest_locator + count_length + number_items.widest * (item_head + text_length.widest)

uri-short : (xs : List ℕ) → Bytes xs → uri_end_place xs ≤ uri_start + uri_length.widest
uri-short xs b = go (uri_due (type_at xs))
  where
    go : (t : Bool) → pick t (uri_start + get_or xs head_length 0) head_length ≤ uri_start + uri_length.widest
    go true = omega (arith, bytes-at xs head_length b)
    go false = omega arith

used-short : (xs : List ℕ) → locator_used (read_locator xs) ≤ longest_locator
used-short xs = go (read_locator xs) refl
  where
    one : (n : ℕ) → OneOf lengths n → n ≤ longest_locator
    one n (inl e) = omega arith
    one n (inr (inl e)) = omega arith
    one n (inr (inr (inl e))) = omega arith
    one n (inr (inr (inr (inl e)))) = omega arith
    one n (inr (inr (inr (inr (inl e))))) = omega arith
    one n (inr (inr (inr (inr (inr (inl e)))))) = omega arith
    one n (inr (inr (inr (inr (inr (inr (inl e))))))) = omega arith
    one n (inr (inr (inr (inr (inr (inr (inr (inl e)))))))) = omega arith
    one n (inr (inr (inr (inr (inr (inr (inr (inr x8)))))))) = elim x8 [ ]

    go : (a : Result LocatorRead Refusal) → read_locator xs ≡ a → locator_used a ≤ longest_locator
    go (Err r) e = omega arith
    go (Ok got) e = one got.used (used-eight xs got.locator got.used e)

count-short : (xs : List ℕ) → Bytes xs → count_place xs ≤ uri_start + uri_length.widest + longest_locator
count-short xs b = go (locator_due (type_at xs))
  where
    go : (t : Bool) → pick t (uri_end_place xs + locator_used (locator_in xs)) (uri_end_place xs) ≤ uri_start + uri_length.widest + longest_locator
    go true = omega (arith, uri-short xs b, used-short (drop (uri_end_place xs) xs))
    go false = omega (arith, uri-short xs b)

items-short : (n : ℕ) (xs : List ℕ) (p : ℕ) → Bytes xs → item_place n xs p ≤ p + n * (item_head + text_length.widest)
items-short zero xs p b = omega arith
items-short (suc n) xs p b = omega (arith, items-short n xs (item_end xs p) b, bytes-at xs (p + language_length) b)

module _ (xs : List ℕ) (b : Bytes xs) where
  pub uri-far : uri_end_place xs ≤ farthest
  uri-far = omega (arith, uri-short xs b)

  pub count-far : count_place xs ≤ farthest
  count-far = omega (arith, count-short xs b)

  pub item-far : (n : ℕ) → n ≤ number_items.widest → item_place n xs (items_place xs) ≤ farthest
  item-far n h = omega (arith, items-short n xs (items_place xs) b, count-short xs b)

  pub tail-far : tail_place xs ≤ farthest
  tail-far = item-far (item_count xs) (omega arith)

pub record Front (xs : List ℕ) : Type 0 where
  pub four : head_length ≤ length xs
  pub uri : uri_end_place xs ≤ length xs
  pub within : count_place xs < length xs

pub front-known : (xs : List ℕ) → front_verdict xs ≡ Fine → Front xs
unfolding front_verdict
front-known xs v =
    let a = then-fine _ _ v in
    let b = then-fine (uri_verdict xs) _ a.1 in
    let four : head_length ≤ length xs = passed-ltb (length xs) head_length _ _ _ a.0 in
    record { four = four; uri = uri-within xs four b.0; within = front-within xs v }

pub rest-known : (xs : List ℕ) → rest_verdict xs ≡ Fine → (items_verdict (item_count xs) xs (items_place xs) ≡ Fine) × (block_end xs (tail_place xs) ≡ length xs)
unfolding rest_verdict
rest-known xs v = let a = then-fine (items_verdict (item_count xs) xs (items_place xs)) _ v in (a.0, last-passed icon_cut descriptors_too_long link_slack xs (length xs) (tail_place xs) a.1)

-- ---- the answer with a record

pub answer-refused : (v : Verdict) (k : LinkInfo) (r : Refusal) → v ≡ Err r → Err r ≡ link_answer v k
unfolding link_answer
answer-refused v k r w = rw w

-- ---- an accepted body, and its items and parts

pub body-known : (xs : List ℕ) → body_verdict xs ≡ Fine → (front_verdict xs ≡ Fine) × (rest_verdict xs ≡ Fine)
unfolding body_verdict
body-known xs v = then-fine (front_verdict xs) (rest_verdict xs) v

pub item-21 : (base : ℕ) (xs : List ℕ) (i : ℕ) → body_verdict xs ≡ Fine → item_count xs ≤ i → Err (record { number = no_such_number; first = i; second = item_count xs }) ≡ item_read base xs i
unfolding item_read item_answer item_rows item_row refuse
item-21 base xs i v h = rw (go_on (body_verdict xs) _ v, le-leb _ _ h)

rows-fine : (xs : List ℕ) (i : ℕ) → body_verdict xs ≡ Fine → i < item_count xs → item_rows xs i ≡ Fine
unfolding item_rows item_row
rows-fine xs i v h = fine-then _ _ v (pass-leb (item_count xs) i _ _ _ h)

pub item-got : (base : ℕ) (xs : List ℕ) (i : ℕ) → body_verdict xs ≡ Fine → i < item_count xs → Ok (item_info base xs (item_place i xs (items_place xs))) ≡ item_read base xs i
unfolding item_read item_answer
item-got base xs i v h = rw (rows-fine xs i v h)

pub item-stop : (base : ℕ) (xs : List ℕ) (i : ℕ) (r : Refusal) → body_verdict xs ≡ Err r → Err r ≡ item_read base xs i
unfolding item_read item_answer item_rows
item-stop base xs i r v = rw (refused-then (body_verdict xs) _ r v)

-- what an answer says
answer-got : (v : Verdict) (k l : LinkItem) → item_answer v k ≡ Ok l → (v ≡ Fine) × (k ≡ l)
unfolding item_answer
answer-got (Ok _) k l e = (refl, cc)
answer-got (Err r) k l e = let z : ◌≡◌ {A = ℕ} 0 1 = cc in absurd (omega arith)

answer-not : (v : Verdict) (k : LinkItem) (r : Refusal) → item_answer v k ≡ Err r → v ≡ Err r
unfolding item_answer
answer-not (Ok _) k r e = let z : ◌≡◌ {A = ℕ} 0 1 = cc in absurd (omega arith)
answer-not (Err q) k r e = cc

pub item-had : (base : ℕ) (xs : List ℕ) (i : ℕ) (l : LinkItem) → item_read base xs i ≡ Ok l → (item_rows xs i ≡ Fine) × (item_info base xs (item_place i xs (items_place xs)) ≡ l)
unfolding item_read
item-had base xs i l e = answer-got (item_rows xs i) _ l e

pub item-not : (base : ℕ) (xs : List ℕ) (i : ℕ) (r : Refusal) → item_read base xs i ≡ Err r → item_rows xs i ≡ Err r
unfolding item_read
item-not base xs i r e = answer-not (item_rows xs i) _ r e

-- the text of an item lies within the body
pub text-within : (xs : List ℕ) (i : ℕ) → item_rows xs i ≡ Fine → item_end xs (item_place i xs (items_place xs)) ≤ length xs
unfolding item_rows item_row
text-within xs i v =
    let two = then-fine (body_verdict xs) _ v in
    let b = body-known xs two.0 in
    let w = (front-known xs b.0).within in
    let h : items_place xs ≤ length xs = omega arith in
    item-within (item_count xs) i xs (items_place xs) (passed-leb (item_count xs) i _ _ _ two.1) h (rest-known xs b.1).0
