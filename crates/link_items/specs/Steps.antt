-- The steps of an item reader: a step answers the body's 6 to 16, then 21 (number, count) past the last item, else the item,
-- and moves on only with that. What it keeps beside the bytes is the number of the next item. Ranges are counted
-- from the body: base 0.
-- Assumes nothing.
use Rattle.std.specs.Prelude.{ℕ, zero, suc, ◌+◌, List, [], ◌∷◌, Err, Ok, Result}
use Rattle.std.specs.Borrow.{Bor}
use Rattle.link.specs.Answers.{item_read}
use Rattle.link_items.specs.declared.ItemReader.{ItemReader}
use Rattle.link_items.specs.declared.Stepped.{Stepped}
use Rattle.link.specs.declared.LinkItem.{LinkItem}
use Rattle.wire.specs.declared.verdict.Refusal.{Refusal}

-- the number behind an answer to number n: an item moves it on, a refusal leaves it
abbrev pub number_behind : Result LinkItem Refusal → ℕ → ℕ
number_behind (Ok i) n = n + 1
number_behind (Err r) n = n

-- the number that is next behind a step to number n, and what the step answers; the base that ranges are counted from is 0
unfoldable pub moved_from : ℕ → List ℕ → ℕ → ℕ
moved_from base xs n = number_behind (item_read base xs n) n

abbrev pub stepped_from : ℕ → List ℕ → ℕ → Stepped
stepped_from base xs n = record { item = item_read base xs n; next = moved_from base xs n }

abbrev pub moved_to : List ℕ → ℕ → ℕ
moved_to xs n = moved_from 0 xs n

abbrev pub stepped : List ℕ → ℕ → Stepped
stepped xs n = stepped_from 0 xs n

-- ---- the reader: the slice that it was given, its place in memory included, and the number of the next item

abbrev pub reader_of : Bor (List ℕ) → ItemReader
reader_of s = record { body = s; next = 0 }

abbrev pub moved_on : ItemReader → ItemReader
moved_on r = record { body = r.body; next = moved_to r.body.now r.next }

-- ---- steps from the start

-- the number that is next behind n steps
unfoldable pub number_after : List ℕ → ℕ → ℕ
number_after xs zero = 0
number_after xs (suc n) = moved_to xs (number_after xs n)

-- the reader that they lead to
unfoldable pub reader_after : Bor (List ℕ) → ℕ → ItemReader
reader_after s zero = reader_of s
reader_after s (suc n) = moved_on (reader_after s n)

-- the answer of the step after them
abbrev pub item_after : List ℕ → ℕ → Result LinkItem Refusal
item_after xs n = item_read 0 xs (number_after xs n)

-- the answers of n steps from number k on, in their order
unfoldable pub answers : ℕ → List ℕ → ℕ → List (Result LinkItem Refusal)
answers zero xs k = []
answers (suc n) xs k = item_read 0 xs k ∷ answers n xs (moved_to xs k)
