-- The order of the calls' refusals (docs/REFUSALS.md): of each refusal exactly when it is answered, and what holds then of all that stands
-- before it, so that the answer to every input is settled. Appending and replacing: the checked reading's, then 30 or 21, then 23, 22,
-- 24, 25, 28, 29. Making: 38, 22, 25, 28, 29. By request 105 the checked reading answers 28 too, of the section that is there. The order
-- of 23, 22, 24, 25 among themselves is link_draft's (Order).
-- Assumes nothing.
use Prim.Native.Nat.{ℕ, ◌≤◌, ◌<◌}
use mathlib.Core.Path.{◌≡◌, refl, sym}
use mathlib.Core.Logic.{◌↔◌, ◌⊎◌, inl}
use mathlib.Core.Bool.{true, false}
use mathlib.Core.List.{List}
use native.Mathlib.Omega.{arith}
use lib.ListN.{length}
use Rattle.wire.specs.Lists.{Bytes}
use Rattle.wire.specs.Refusals.{no_such_number, section_too_long, no_room, no_more_links}
use Rattle.wire.specs.Verdict.{bad, Fine}
use Rattle.wire.proofs.Among.{listed}
use Rattle.wire.proofs.Lists.{bytes-at}
use Rattle.wire.proofs.Verdicts.{row-says, passed-leb, pass-leb, broken-leb, break-leb}
use Rattle.link.specs.Records.{link_of}
use Rattle.link.specs.declared.LinkInfo.{LinkInfo}
use Rattle.link_draft.specs.Checks.{check_link}
use Rattle.link_draft.proofs.Listed.{link_checks, check-listed}
use Rattle.frame.proofs.Limit.{AboveLimit}
use Rattle.rct.specs.Syntax.{link_count_place, rct, Section}
use Rattle.rct.specs.Reading.{count_at, section_at, number_row, checked}
use Rattle.rct.proofs.Checked.{number_passed, number-pass}
use Rattle.rct.proofs.Listed.{checked_reading, number-listed, checked-above}
use Rattle.rct_edit.specs.Edit.{most_links, with_link, with_next, count_row}
use Rattle.rct_edit.specs.Calls.{appending, replacing}
use Rattle.rct_edit.proofs.Calls.{replacing-verdict, appending-verdict}
use Rattle.rct_edit.proofs.Listed.{room_numbers, count-listed}
use Rattle.rct_edit.proofs.Rows.{TooLong, TooLarge, Accepted, LinkRefused, Ready, OwnRow, reading-iff, own-iff, link-iff, edit-long, edit-large, edit-fine}

-- ---- replacing link k

module _ (xs : List ℕ) (k : ℕ) (t : List ℕ) (i : LinkInfo) where
  -- there is a link k; the section with the new one in its place
  abbrev There : Type 0
  There = k < count_at xs

  abbrev replacement : Section
  replacement = with_link (section_at xs) k (link_of t i)

  number-row : OwnRow (number_row xs k) There no_such_number
  number-row = record { passed = number_passed xs k; pass = number-pass xs k; numbers = number-listed xs k; apart = refl }

  -- 1 to 20 and 38, which the room does not answer: exactly if the checked reading answers it, whatever else is wrong
  pub replacing-reading : (n f g : ℕ) → listed n checked_reading ≡ true → listed n room_numbers ≡ false → ((replacing xs k t i).verdict ≡ bad n f g) ↔ (checked xs ≡ bad n f g)
  replacing-reading = rw (replacing-verdict xs k t i) (reading-iff xs _ _ replacement There no_such_number number-row (check-listed t i))

  -- 21 (f, g): the section is fine and has no link k, whatever the link that is handed in
  pub record NoSuchLink (f g : ℕ) : Type 0 where
    pub section : checked xs ≡ Fine
    pub past : count_at xs ≤ k
    pub figures : (f ≡ k) × (g ≡ count_at xs)

  pub replacing-number : (f g : ℕ) → ((replacing xs k t i).verdict ≡ bad no_such_number f g) ↔ NoSuchLink f g
  unfolding number_row
  replacing-number f g =
      rw (replacing-verdict xs k t i)
      (let iff = own-iff xs _ _ replacement There no_such_number number-row (check-listed t i) f g refl refl refl in (
        λ e.
            let two = iff.0 e in
            let says = (row-says _ _ _ _ _ f g two.1).1 in
            record { section = two.0; past = broken-leb _ _ _ _ _ _ f g two.1; figures = (sym says.0, sym says.1) },
        λ n. iff.1 (n.section, rw (n.figures.0, n.figures.1) (break-leb _ _ _ _ _ n.past)),
      ))

  -- 23, 22, 24, 25: the section is fine and has a link k, and the link's own checks answer it, whatever the lengths
  pub replacing-link : (n f g : ℕ) → listed n link_checks ≡ true → ((replacing xs k t i).verdict ≡ bad n f g) ↔ LinkRefused xs There (check_link t i) n f g
  replacing-link = rw (replacing-verdict xs k t i) (link-iff xs _ _ replacement There no_such_number number-row (check-listed t i))

  -- 28 (f, g): the checked reading answers it, or all of that is fine and the new section_length is above the limit, whatever the room
  pub replacing-long : (f g : ℕ) → ((replacing xs k t i).verdict ≡ bad section_too_long f g) ↔ ((checked xs ≡ bad section_too_long f g) ⊎ TooLong (Ready xs There (check_link t i)) replacement f g)
  replacing-long = rw (replacing-verdict xs k t i) (edit-long xs _ _ replacement There no_such_number number-row (check-listed t i))

  -- so a section above the limit is not edited: 28 with its own length, whatever is handed in
  pub replacing-above : (f g : ℕ) → AboveLimit rct xs f g → (replacing xs k t i).verdict ≡ bad section_too_long f g
  replacing-above f g a = (replacing-long f g).1 (inl ((checked-above xs f g).1 a))

  -- 29 (f, g): it is within the limit too, and the room is smaller than the new section
  pub replacing-large : (f g : ℕ) → ((replacing xs k t i).verdict ≡ bad no_room f g) ↔ TooLarge (Ready xs There (check_link t i)) replacement (length xs) f g
  replacing-large = rw (replacing-verdict xs k t i) (edit-large xs _ _ replacement There no_such_number number-row (check-listed t i))

  -- none: all of it is fine
  pub replacing-fine : ((replacing xs k t i).verdict ≡ Fine) ↔ Accepted (Ready xs There (check_link t i)) replacement (length xs)
  replacing-fine = rw (replacing-verdict xs k t i) (edit-fine xs _ _ replacement There no_such_number number-row (check-listed t i))

-- ---- appending

module _ (xs : List ℕ) (t : List ℕ) (i : LinkInfo) where
  -- there can be one more link; the section with it
  abbrev NotFull : Type 0
  NotFull = count_at xs < most_links

  abbrev extension : Section
  extension = with_next (section_at xs) (link_of t i)

  count-row : OwnRow (count_row xs) NotFull no_more_links
  count-row = record { passed = passed-leb most_links (count_at xs) _ _ _; pass = pass-leb most_links (count_at xs) _ _ _; numbers = count-listed xs; apart = refl }

  -- 1 to 20 and 38, which the room does not answer: exactly if the checked reading answers it, whatever else is wrong
  pub appending-reading : (n f g : ℕ) → listed n checked_reading ≡ true → listed n room_numbers ≡ false → ((appending xs t i).verdict ≡ bad n f g) ↔ (checked xs ≡ bad n f g)
  appending-reading = rw (appending-verdict xs t i) (reading-iff xs _ _ extension NotFull no_more_links count-row (check-listed t i))

  -- 30 (f, g): the section is fine and has 255 links, whatever the link that is handed in
  pub record FullOfLinks (f g : ℕ) : Type 0 where
    pub section : checked xs ≡ Fine
    pub full : count_at xs ≡ most_links
    pub figures : (f ≡ most_links) × (g ≡ 0)

  pub appending-count : Bytes xs → (f g : ℕ) → ((appending xs t i).verdict ≡ bad no_more_links f g) ↔ FullOfLinks f g
  appending-count b f g =
      rw (appending-verdict xs t i)
      (let iff = own-iff xs _ _ extension NotFull no_more_links count-row (check-listed t i) f g refl refl refl in (
        λ e.
            let two = iff.0 e in
            let says = (row-says _ _ _ _ _ f g two.1).1 in
            let full = broken-leb most_links (count_at xs) _ _ _ _ f g two.1 in
            record { section = two.0; full = omega (arith, full, bytes-at xs link_count_place b); figures = (sym says.0, sym says.1) },
        λ n. iff.1 (n.section, rw (n.figures.0, n.figures.1) (break-leb most_links (count_at xs) _ _ _ (omega (arith, n.full)))),
      ))

  -- 23, 22, 24, 25: the section is fine and not full, and the link's own checks answer it, whatever the lengths
  pub appending-link : (n f g : ℕ) → listed n link_checks ≡ true → ((appending xs t i).verdict ≡ bad n f g) ↔ LinkRefused xs NotFull (check_link t i) n f g
  appending-link = rw (appending-verdict xs t i) (link-iff xs _ _ extension NotFull no_more_links count-row (check-listed t i))

  -- 28 (f, g): the checked reading answers it, or all of that is fine and the new section_length is above the limit, whatever the room
  pub appending-long : (f g : ℕ) → ((appending xs t i).verdict ≡ bad section_too_long f g) ↔ ((checked xs ≡ bad section_too_long f g) ⊎ TooLong (Ready xs NotFull (check_link t i)) extension f g)
  appending-long = rw (appending-verdict xs t i) (edit-long xs _ _ extension NotFull no_more_links count-row (check-listed t i))

  -- so a section above the limit is not edited: 28 with its own length, whatever is handed in
  pub appending-above : (f g : ℕ) → AboveLimit rct xs f g → (appending xs t i).verdict ≡ bad section_too_long f g
  appending-above f g a = (appending-long f g).1 (inl ((checked-above xs f g).1 a))

  -- 29 (f, g): it is within the limit too, and the room is smaller than the new section
  pub appending-large : (f g : ℕ) → ((appending xs t i).verdict ≡ bad no_room f g) ↔ TooLarge (Ready xs NotFull (check_link t i)) extension (length xs) f g
  appending-large = rw (appending-verdict xs t i) (edit-large xs _ _ extension NotFull no_more_links count-row (check-listed t i))

  -- none: all of it is fine
  pub appending-fine : ((appending xs t i).verdict ≡ Fine) ↔ Accepted (Ready xs NotFull (check_link t i)) extension (length xs)
  appending-fine = rw (appending-verdict xs t i) (edit-fine xs _ _ extension NotFull no_more_links count-row (check-listed t i))
