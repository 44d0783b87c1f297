-- The link between two places, as the code puts it there, is what the records say; so are appending and replacing, row by row.
-- Assumes nothing.
use Prim.Native.Nat.{ℕ, ◌+◌, ◌-◌, ◌≤◌, ◌<◌}
use mathlib.Core.Path.{◌≡◌, refl, sym, ap, ◌∙◌}
use mathlib.Core.List.{List}
use native.Mathlib.Omega.{arith}
use lib.ListN.{length, take, replicate}
use lib.Seq.{sets}
use borrow.Author.Tests.{le-leb, lt-leb}
use Rattle.wire.specs.Lists.{Bytes, part}
use Rattle.wire.specs.Numbers.{bytes32}
use Rattle.wire.specs.Verdict.{◌▷◌, Fine, Verdict}
use Rattle.wire.specs.declared.verdict.Refusal.{Refusal}
use Rattle.wire.proofs.Verdicts.{go_on, stop, refused-then, refused-row, fine-row}
use Rattle.wire.proofs.Words.{length-bytes32}
use Rattle.wire.specs.Refusals.{no_such_number, no_more_links}
use Rattle.crc.specs.Crc.{crc_of}
use Rattle.link.specs.Syntax.{Link}
use Rattle.link.specs.Records.{link_of}
use Rattle.link.specs.declared.LinkInfo.{LinkInfo}
use Rattle.link_draft.specs.Checks.{check_link}
use Rattle.link_draft.specs.Lengths.{link_length}
use Rattle.frame.proofs.Opening.{Opened}
use Rattle.frame.proofs.Readings.{reading-opened, checked-reading}
use Rattle.frame.specs.Syntax.{crc_length, uncounted}
use Rattle.frame.specs.Reading.{checked_demands, payload_end, total_of}
use Rattle.rct.specs.Syntax.{rct, Section, section_length, full_length, entry_place}
use Rattle.rct.proofs.Accepted.{place_is, total-is}
use Rattle.rct.specs.Reading.{number_row, count_at, loop_place, section_at, payload_verdict, reading, checked}
use Rattle.rct.proofs.Checked.{count_is, number-pass}
use Rattle.rct_walker.proofs.Walks.{SpanOf}
use Rattle.rct_edit.specs.Edit.{most_links, filler, with_link, with_next, written, count_row, room_rows, replace_verdict, append_verdict, Outcome, done, replaced, appended}
use Rattle.edit_answers.specs.Answers.{spliced_by}
use Rattle.rct_edit.specs.Rehead.{rehead}
use Rattle.frame.specs.Ending.{sealed_at}
use Rattle.rct_edit.proofs.Assembled.{Steps, new-end, assembled}
use Rattle.rct_edit.proofs.Locality.{Splice, append-splice, replace-splice}
use Rattle.rct_edit.proofs.Records.{length-with, length-next}
use Rattle.rct_edit.proofs.Outcomes.{Came, done-stops, room-passed}
use Rattle.rct_edit.proofs.Placed.{refused-placed, came-placed}
use Rattle.rct_stores.specs.Stores.{filled_up}
use Rattle.rct_editor.specs.Splicing.{entry_bytes, Spot, length_between, spliced, finished, between_verdict, between_bytes, between}
use Rattle.rct_edit.specs.Calls.{replacing, appending, appending_placed, replacing_placed}
use Rattle.rct_editor.proofs.Sizes.{entry-size}
use Rattle.edit_answers.specs.declared.Spliced.{Spliced}
use Rattle.std.specs.Prelude.{Err, Ok, Result}

module _ (xs : List ℕ) (o : Opened rct checked_demands xs) (t : List ℕ) (k : LinkInfo) (s : Section) (p q count : ℕ) (sp : Splice xs s (link_of t k) p q) (n : length s.links ≡ count) where
  -- of a record that passed its checks
  module _ (c : check_link t k ≡ Fine) where
    length-same : length_between xs p q (link_length k) ≡ section_length s
    length-same = omega (arith, sp.sum, sp.ordered, sp.inside, entry-size t k c, o.large)

    bytes_same : full_length s ≤ length xs → between_bytes xs p q count t k ≡ written xs s
    unfolding between_bytes finished spliced sealed_at filled_up
    bytes_same r = rw (length-same, ← n) (assembled checked_demands xs o s (link_of t k) p q sp y1 y2 y3 y4 y5 r steps)
      where
        C : List ℕ
        C = entry_bytes t k

        M : List ℕ
        M = part xs q (payload_end xs - q)

        y1 : List ℕ
        y1 = sets xs (p + length C) M

        y2 : List ℕ
        y2 = sets y1 p C

        y3 : List ℕ
        y3 = rehead y2 (section_length s) (length s.links)

        e : ℕ
        e = uncounted + section_length s - crc_length

        y4 : List ℕ
        y4 = sets y3 e (bytes32 (crc_of (take e y3)))

        y5 : List ℕ
        y5 = sets y4 (uncounted + section_length s) (replicate (total_of xs - (uncounted + section_length s)) filler)

        end : e ≡ p + length C + length M
        end = omega (arith, new-end checked_demands xs o s (link_of t k) p q sp)

        W : List ℕ
        W = bytes32 (crc_of (take (p + length C + length M) y3))

        behind : uncounted + section_length s ≡ p + length C + length M + length W
        behind = omega (arith, new-end checked_demands xs o s (link_of t k) p q sp, length-bytes32 (crc_of (take (p + length C + length M) y3)))

        steps : Steps xs p (section_length s) (length s.links) C M W (replicate (total_of xs - full_length s) filler) y1 y2 y3 y4 y5
        steps = record {
          moved = refl;
          linked = refl;
          headed = refl;
          summed = ap (λ i. sets y3 i (bytes32 (crc_of (take i y3)))) end;
          filled = ap (λ i. sets y4 i (replicate (total_of xs - full_length s) filler)) behind;
        }

  -- the outcomes by a verdict: of the numbers, and of the records
  abbrev by_numbers : Verdict → Outcome
  by_numbers v = done v (uncounted + length_between xs p q (link_length k)) (between_bytes xs p q count t k) xs

  abbrev by_records : Verdict → Outcome
  by_records v = done v (full_length s) (written xs s) xs

  room-same : check_link t k ≡ Fine → (w : Verdict) → room_rows (length xs) (section_length s) ≡ w → by_numbers w ≡ by_records w
  unfolding done
  room-same c (Ok _) e = rw (length-same c, bytes_same c (room-passed (length xs) (section_length s) e).enough)
  room-same c (Err r) e = refl

  same-refused : (r : Refusal) → by_numbers (Err r) ≡ by_records (Err r)
  unfolding done
  same-refused r = refl

  pub between_is : between xs p q count t k ≡ by_records (check_link t k ▷ room_rows (length xs) (section_length s))
  unfolding between between_verdict
  between_is = by (check_link t k) refl
    where
      by : (v : Verdict) → check_link t k ≡ v
          → by_numbers (check_link t k ▷ room_rows (length xs) (length_between xs p q (link_length k)))
          ≡ by_records (check_link t k ▷ room_rows (length xs) (section_length s))
      by (Ok _) c =
          ap by_numbers (go_on (check_link t k) _ c ∙ ap (room_rows (length xs)) (length-same c))
          ∙ room-same c (room_rows (length xs) (section_length s)) refl
          ∙ ap by_records (sym (go_on (check_link t k) _ c))
      by (Err r) c = ap by_numbers (refused-then (check_link t k) _ r c) ∙ same-refused r ∙ ap by_records (sym (refused-then (check_link t k) _ r c))

-- ---- what the checked reading found

read-fine : (xs : List ℕ) → checked xs ≡ Fine → reading checked_demands xs ≡ Fine
read-fine = checked-reading rct payload_verdict

pub frame-fine : (xs : List ℕ) → checked xs ≡ Fine → Opened rct checked_demands xs
frame-fine xs e = reading-opened rct payload_verdict checked_demands xs (read-fine xs e)

splice-spot : (xs : List ℕ) (s : Section) (l : Link) (p q : ℕ) → Opened rct checked_demands xs → Splice xs s l p q → Spot xs p q
splice-spot xs s l p q o sp = record { large = o.large; within = o.within; low = sp.low; ordered = sp.ordered; inside = sp.inside }

-- ---- appending

module _ (xs : List ℕ) (t : List ℕ) (k : LinkInfo) where
  -- the answer p and the buffer ys are those of the call
  abbrev Appends : Result Spliced Refusal → List ℕ → Type 0
  Appends p ys = (p ≡ appending_placed xs t k) × (ys ≡ (appending xs t k).buffer)

  append-stops : (r : Refusal) → append_verdict xs (check_link t k) (link_of t k) ≡ Err r → Appends (Err r) xs
  unfolding appending_placed appending appended
  append-stops r w = refused-placed _ xs _ _ _ r (done-stops _ _ _ xs r _ w refl)

  pub append-unread : (r : Refusal) → checked xs ≡ Err r → Appends (Err r) xs
  append-unread r c = append-stops r (unfold append_verdict in refused-then (checked xs) _ r c)

  module _ (c : checked xs ≡ Fine) where
    pub append-full : (n : ℕ) → most_links ≤ count_at xs → n ≡ most_links → Appends (Err (record { number = no_more_links; first = n; second = 0 })) xs
    append-full n h e =
        rw e
        (append-stops _ (unfold append_verdict in go_on (checked xs) _ c ∙ stop (count_row xs) _ _ _ _ (refused-row _ _ _ _ (le-leb most_links (count_at xs) h))))

  -- the loop stands at q
  module _ (c : checked xs ≡ Fine) (q : ℕ) (at : loop_place xs ≡ q) (b : Bytes xs) where
    behind : Splice xs (with_next (section_at xs) (link_of t k)) (link_of t k) q q
    behind = rw (← at) (append-splice checked_demands xs b (read-fine xs c) (omega arith) (link_of t k))

    pub append-spot : Spot xs q q
    append-spot = splice-spot xs _ (link_of t k) _ _ (frame-fine xs c) behind

    append-is : count_at xs < most_links → between xs q q (count_at xs + 1) t k ≡ appending xs t k
    unfolding appending appended
    append-is h =
        between_is xs (frame-fine xs c) t k (with_next (section_at xs) (link_of t k)) q q (count_at xs + 1)
        behind (length-next (section_at xs) (link_of t k) ∙ ap (λ n. n + 1) (count_is xs))
        ∙ ap (λ v. done v (full_length (with_next (section_at xs) (link_of t k))) (written xs (with_next (section_at xs) (link_of t k))) xs)
        (unfold append_verdict in sym (go_on (checked xs) _ c ∙ go_on (count_row xs) _ (fine-row _ _ _ _ (lt-leb most_links (count_at xs) h))))

    -- with the numbers as the walk found them
    pub append-goes : (n total : ℕ) (e : Result ℕ Refusal) (p : Result Spliced Refusal) (ys : List ℕ) → count_at xs ≡ n → total_of xs ≡ total → n < most_links
        → Came (between xs q q (n + 1) t k) e ys → p ≡ spliced_by e total n q → Appends p ys
    unfolding appending_placed
    append-goes n total e p ys en et h came is =
        let ends : Came (appending xs t k) e ys = rw (← append-is (omega arith), en) came in
        let place : q ≡ entry_place (section_at xs) (length (section_at xs).links) =
        sym at ∙ place_is checked_demands xs b (read-fine xs c) (count_at xs) (omega arith) ∙ ap (entry_place (section_at xs)) (sym (count_is xs)) in
        came-placed (appending xs t k) ys _ _ _ e p total n q ends is (sym et ∙ total-is checked_demands xs b (read-fine xs c)) (sym en ∙ sym (count_is xs)) place

-- ---- replacing

module _ (xs : List ℕ) (number : ℕ) (t : List ℕ) (k : LinkInfo) where
  abbrev Replaces : Result Spliced Refusal → List ℕ → Type 0
  Replaces p ys = (p ≡ replacing_placed xs number t k) × (ys ≡ (replacing xs number t k).buffer)

  replace-stops : (r : Refusal) → replace_verdict xs number (check_link t k) (link_of t k) ≡ Err r → Replaces (Err r) xs
  unfolding replacing_placed replacing replaced
  replace-stops r w = refused-placed _ xs _ _ _ r (done-stops _ _ _ xs r _ w refl)

  pub replace-unread : (r : Refusal) → checked xs ≡ Err r → Replaces (Err r) xs
  replace-unread r c = replace-stops r (unfold replace_verdict in refused-then (checked xs) _ r c)

  module _ (c : checked xs ≡ Fine) where
    pub replace-none : (n : ℕ) (p : Result Spliced Refusal) → count_at xs ≡ n → n ≤ number → p ≡ Err (record { number = no_such_number; first = number; second = n }) → Replaces p xs
    replace-none n p e h is =
        rw (is, ← e)
        (replace-stops _
        (unfold replace_verdict number_row in go_on (checked xs) _ c ∙ stop (number_row xs number) _ _ _ _ (refused-row _ _ _ _ (le-leb (count_at xs) number (omega arith)))))

  -- there is such a link, and its entry stands from p to q
  module _ (c : checked xs ≡ Fine) (p q : ℕ) (f : SpanOf xs number p q) (b : Bytes xs) (h : number < count_at xs) where
    inside : Splice xs (with_link (section_at xs) number (link_of t k)) (link_of t k) p q
    inside = rw (← f.start, ← f.end) (replace-splice checked_demands xs b (read-fine xs c) (omega arith) number (link_of t k) h)

    pub replace-spot : Spot xs p q
    replace-spot = splice-spot xs _ (link_of t k) _ _ (frame-fine xs c) inside

    replace-is : between xs p q (count_at xs) t k ≡ replacing xs number t k
    unfolding replacing replaced
    replace-is =
        between_is xs (frame-fine xs c) t k (with_link (section_at xs) number (link_of t k)) p q (count_at xs)
        inside (length-with (section_at xs) number (link_of t k) ∙ count_is xs)
        ∙ ap (λ v. done v (full_length (with_link (section_at xs) number (link_of t k))) (written xs (with_link (section_at xs) number (link_of t k))) xs)
        (unfold replace_verdict in sym (go_on (checked xs) _ c ∙ go_on (number_row xs number) _ (number-pass xs number h)))

    pub replace-goes : (n total : ℕ) (e : Result ℕ Refusal) (s : Result Spliced Refusal) (ys : List ℕ) → count_at xs ≡ n → total_of xs ≡ total
        → Came (between xs p q n t k) e ys → s ≡ spliced_by e total n p → Replaces s ys
    unfolding replacing_placed
    replace-goes n total e s ys en et came is =
        let ends : Came (replacing xs number t k) e ys = rw (← replace-is, en) came in
        let place : p ≡ entry_place (section_at xs) number = sym f.start ∙ place_is checked_demands xs b (read-fine xs c) number (omega arith) in
        came-placed (replacing xs number t k) ys _ _ _ e s total n p ends is (sym et ∙ total-is checked_demands xs b (read-fine xs c)) (sym en ∙ sym (count_is xs)) place
