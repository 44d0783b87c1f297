-- What the reading calls answer of a buffer that a call has written, and what lies behind the section there.
-- Assumes nothing.
use Rattle.std.specs.Prelude.{ℕ, ◌+◌, ◌-◌, ◌<◌, max, ◌≡◌, ◌≢◌, List, length, drop, get_or, replicate, Ok, Result}
use Rattle.wire.specs.Lists.{part}
use Rattle.link.specs.Records.{range_of, item_of, items_of, link_of, no_item}
use Rattle.link.specs.declared.Range.{Range}
use Rattle.link.specs.declared.LinkInfo.{LinkInfo}
use Rattle.link.specs.declared.LinkItem.{LinkItem}
use Rattle.rct.specs.declared.RctHeader.{RctHeader}
use Rattle.rct.specs.Reading.{section_at, plain, checked}
use Rattle.rct_reader.specs.Sections.{section_read}
use Rattle.rct_reader.specs.declared.RctSection.{RctSection}
use Rattle.rct_links.specs.Links.{numbered_link, numbered_item}
use Rattle.rct_edit.specs.Edit.{bare, with_link, with_next, Outcome}
use Rattle.rct_edit.specs.Making.{loop_of}
use Rattle.wire.specs.Verdict.{Fine, verdict_of}
use Rattle.link.specs.Answers.{link_got}
use Rattle.wire.specs.declared.verdict.Refusal.{Refusal}

-- ---- the answers of the two readings

abbrev pub plain_read : List ℕ → Result RctSection Refusal
plain_read xs = section_read (plain xs) xs

abbrev pub checked_read : List ℕ → Result RctSection Refusal
checked_read xs = section_read (checked xs) xs

-- ---- records that are equal

-- Records are equal if their numbers and the bytes of their ranges are equal, and items past the count mean nothing.
-- The syntax's record that a stands for with the text t has just these: the numbers, the bytes of the ranges, the items that count.
abbrev pub SameLink : List ℕ → LinkInfo → List ℕ → LinkInfo → Type 0
SameLink t a u b = link_of t a ≡ link_of u b

abbrev pub SameItem : List ℕ → LinkItem → List ℕ → LinkItem → Type 0
SameItem t a u b = item_of t a ≡ item_of u b

-- ---- what is read back

-- item by number: item i of link k in ys equals the item a with the text t
pub record ItemBack (ys : List ℕ) (k i : ℕ) (t : List ℕ) (a : LinkItem) : Type 0 where
  pub read : LinkItem
  pub answer : numbered_item ys k i ≡ Ok read
  pub same : SameItem ys read t a

-- link by number: link k in ys equals the record a with the text t, and so do its items by number, as many as count in a
pub record LinkBack (ys : List ℕ) (k : ℕ) (t : List ℕ) (a : LinkInfo) : Type 0 where
  pub verdict : verdict_of (numbered_link ys k) ≡ Fine
  pub same : SameLink ys (link_got (numbered_link ys k)) t a
  pub count : (link_got (numbered_link ys k)).fields.number_items ≡ length (items_of a)
  pub items : (i : ℕ) → i < length (items_of a) → ItemBack ys k i t (get_or a.items i no_item)

-- link k was read in xs, and is read in ys as it was
pub record LinkKept (xs ys : List ℕ) (k : ℕ) : Type 0 where
  pub was : verdict_of (numbered_link xs k) ≡ Fine
  pub is : LinkBack ys k xs (link_got (numbered_link xs k))

-- the checked reading of the buffer that a call left: fine, with the total that the call answered, the header h, n links, and the descriptor loop's bits and bytes
pub record SectionBack (o : Outcome) (h : RctHeader) (n beside : ℕ) (descriptors : List ℕ) : Type 0 where
  pub read : RctSection
  pub answer : checked_read o.buffer ≡ Ok read
  pub total : read.total ≡ o.total
  pub header : read.header ≡ h
  pub links : read.number_of_links ≡ n
  pub reserved : read.reserved_descriptor_loop_length ≡ beside
  pub loop : range_of o.buffer read.descriptors ≡ descriptors

-- ---- behind the section, which ended at old in xs and ends at new in ys

-- from a new end to the old one the buffer is filled, every byte past both is as it was, and there are as many
pub record Behind (xs ys : List ℕ) (old new : ℕ) : Type 0 where
  pub size : length ys ≡ length xs
  pub freed : part ys new (old - new) ≡ replicate (old - new) 0xFF
  pub past : drop (max old new) ys ≡ drop (max old new) xs

-- ---- the three calls: first by the syntax's records that the buffer's bytes stand for, then by the answers

-- The header, the loop's bits and the bytes of its descriptors are those that were handed in, and there are no links.
-- Behind the section every byte is as it was.
pub record MadeBack (xs : List ℕ) (h : RctHeader) (beside : ℕ) (t : List ℕ) (d : Range) (o : Outcome) : Type 0 where
  pub syntax : section_at o.buffer ≡ bare h (loop_of beside t d)
  pub section : SectionBack o h 0 beside (range_of t d)
  pub size : length o.buffer ≡ length xs
  pub past : drop o.total o.buffer ≡ drop o.total xs

-- the header and the loop as the checked reading answered them before, in the record old, and n links
abbrev pub SectionKept : List ℕ → RctSection → Outcome → ℕ → Type 0
SectionKept xs old o n = SectionBack o old.header n old.reserved_descriptor_loop_length (range_of xs old.descriptors)

-- Link k is the one that was handed in, with the text t; every other link is as it was, and there are as many.
-- From a new end to the old one the buffer is 0xFF, and every byte past both is as it was.
pub record ReplacedBack (xs : List ℕ) (k : ℕ) (t : List ℕ) (a : LinkInfo) (o : Outcome) : Type 0 where
  pub old : RctSection
  pub was : checked_read xs ≡ Ok old
  pub below : k < old.number_of_links
  pub syntax : section_at o.buffer ≡ with_link (section_at xs) k (link_of t a)
  pub section : SectionKept xs old o old.number_of_links
  pub named : LinkBack o.buffer k t a
  pub others : (i : ℕ) → i < old.number_of_links → i ≢ k → LinkKept xs o.buffer i
  pub behind : Behind xs o.buffer old.total o.total

-- The link that was handed in, with the text t, is the last, one more than there were; every link before it is as it was.
-- Behind the section as with replacing.
pub record AppendedBack (xs : List ℕ) (t : List ℕ) (a : LinkInfo) (o : Outcome) : Type 0 where
  pub old : RctSection
  pub was : checked_read xs ≡ Ok old
  pub syntax : section_at o.buffer ≡ with_next (section_at xs) (link_of t a)
  pub section : SectionKept xs old o (old.number_of_links + 1)
  pub last : LinkBack o.buffer old.number_of_links t a
  pub others : (i : ℕ) → i < old.number_of_links → LinkKept xs o.buffer i
  pub behind : Behind xs o.buffer old.total o.total
