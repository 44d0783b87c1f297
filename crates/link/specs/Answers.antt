-- What the calls that read a body answer: of a link, of its fields alone, of an item by number, of an item by its place.
-- Assumes nothing.
use Rattle.std.specs.Prelude.{ℕ, ◌+◌, List, take, Err, Ok, Result}
use Rattle.wire.specs.Verdict.{counted_row, ◌▷◌, Fine, Verdict}
use Rattle.wire.specs.declared.verdict.Refusal.{Refusal}
use Rattle.link.specs.Reading.{items_place, item_count, item_end, item_place, item_verdict, body_verdict}
use Rattle.link.specs.Records.{no_link, item_info, fields_at, info_at}
use Rattle.link.specs.declared.LinkFields.{LinkFields}
use Rattle.link.specs.declared.LinkInfo.{LinkInfo}
use Rattle.link.specs.declared.LinkItem.{LinkItem}
use Rattle.link.specs.declared.reading.FieldsRead.{FieldsRead}
use Rattle.link.specs.declared.reading.ItemStep.{ItemStep}

-- an item, and the place behind it
abbrev pub got_step : LinkItem → ℕ → Result ItemStep Refusal
got_step k q = Ok (record { item = k; next = q })

-- a link without its items, and the place of the first of them
abbrev pub got_fields : LinkFields → ℕ → Result FieldsRead Refusal
got_fields k p = Ok (record { fields = k; items_at = p })

-- the record of a body, or the refusal
unfoldable pub link_answer : Verdict → LinkInfo → Result LinkInfo Refusal
link_answer (Ok _) k = Ok k
link_answer (Err r) k = Err r

-- the record that was read: beside a refusal it is the record of nothing
abbrev pub link_got : Result LinkInfo Refusal → LinkInfo
link_got (Ok k) = k
link_got (Err r) = no_link

unfoldable pub link_read : ℕ → ℕ → List ℕ → Result LinkInfo Refusal
link_read base r xs = link_answer (body_verdict xs) (info_at base r xs)

-- the fields of a body and the place of its first item, counted from the base too, or the refusal
unfoldable pub fields_answer : Verdict → LinkFields → ℕ → Result FieldsRead Refusal
fields_answer (Ok _) k p = got_fields k p
fields_answer (Err r) k p = Err r

unfoldable pub fields_read : ℕ → ℕ → List ℕ → Result FieldsRead Refusal
fields_read base r xs = fields_answer (body_verdict xs) (fields_at base r xs) (base + items_place xs)

-- item i of a body: the row 21, with the number and the count; the body's refusals before it
unfoldable pub item_row : List ℕ → ℕ → Verdict
item_row xs i = counted_row (item_count xs) i

unfoldable pub item_rows : List ℕ → ℕ → Verdict
item_rows xs i = body_verdict xs ▷ item_row xs i

unfoldable pub item_answer : Verdict → LinkItem → Result LinkItem Refusal
item_answer (Ok _) k = Ok k
item_answer (Err r) k = Err r

-- the item itself, of items that the rows have passed
abbrev pub item_in : ℕ → List ℕ → ℕ → LinkItem
item_in base xs i = item_info base xs (item_place i xs (items_place xs))

unfoldable pub item_read : ℕ → List ℕ → ℕ → Result LinkItem Refusal
item_read base xs i = item_answer (item_rows xs i) (item_in base xs i)

-- the last place that a range's 32 bits can tell; of a slice that is longer no more is looked at
abbrev pub last_place : ℕ
last_place = 0xFFFFFFFF

unfoldable pub told : List ℕ → List ℕ
told xs = take last_place xs

-- the item at p of a slice, its range counted from the slice's first byte, and the place behind it: 12 and 13 against the slice's end
unfoldable pub step_answer : Verdict → LinkItem → ℕ → Result ItemStep Refusal
step_answer (Ok _) k q = got_step k q
step_answer (Err r) k q = Err r

unfoldable pub item_from : List ℕ → ℕ → Result ItemStep Refusal
item_from xs p = step_answer (item_verdict (told xs) p) (item_info 0 (told xs) p) (item_end (told xs) p)
