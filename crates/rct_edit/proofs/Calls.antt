-- A call on a buffer that holds a section: accepted exactly if the records say that it can be, and then the buffer holds the new section.
-- Assumes nothing.
use mathlib.Core.Path.{◌≡◌, refl, sym, ap, ◌∙◌}
use Prim.Native.Nat.{ℕ, ◌≤◌, ◌<◌}
use native.Mathlib.Omega.{arith}
use mathlib.Core.Bool.{true}
use mathlib.Core.List.{List}
use lib.ListN.{length, length-append, length-drop, length-replicate}
use Rattle.wire.specs.Lists.{Bytes}
use Rattle.length_field.specs.Lengths.{Block, BlockFits}
use Rattle.wire.specs.Verdict.{◌▷◌, Fine, Verdict}
use Rattle.wire.specs.declared.verdict.Refusal.{Refusal}
use Rattle.wire.proofs.Verdicts.{then-fine, fine-then, passed-leb, pass-leb}
use Rattle.link.specs.Syntax.{Link, LinkFits}
use Rattle.link.specs.Records.{link_of}
use Rattle.link.specs.declared.LinkInfo.{LinkInfo}
use Rattle.link.specs.declared.Range.{Range}
use Rattle.link_draft.specs.Checks.{check_link}
use Rattle.frame.specs.Reading.{checked_demands, total_of}
use Rattle.rct.specs.declared.RctHeader.{RctHeader}
use Rattle.rct.specs.Syntax.{Section, section_length, full_length, sealed, RctHeaderFits, Fits}
use Rattle.rct.specs.Reading.{number_row, count_at, section_at, checked}
use Rattle.rct.proofs.Checked.{length-sealed, Holds, sealed-holds, holds-sealed, holds-known, holds-total, checked-holds, count_is, number_passed, number-pass}
use Rattle.rct_edit.specs.Edit.{most_links, bare, with_link, with_next, written, fresh, count_row, room_rows, edit_verdict, replace_verdict, append_verdict, make_verdict, Outcome, done, replaced, appended, made}
use Rattle.rct_edit.specs.Making.{check_making, loop_of}
use Rattle.rct_edit.specs.Calls.{making, appending, replacing}
use Rattle.rct_edit.proofs.Records.{with-fits, next_fits}
use Rattle.rct_edit.proofs.Outcomes.{Roomy, room-passed, room-pass}
use Rattle.std.specs.Prelude.{Err, Ok}

-- ---- room

-- s is within the limit and within the room
abbrev pub Room : ℕ → Section → Type 0
Room room s = Roomy room (section_length s)

-- what an accepted edit passed
pub record Passed (xs : List ℕ) (row v : Verdict) (s : Section) : Type 0 where
  pub section_fine : checked xs ≡ Fine
  pub row_fine : row ≡ Fine
  pub link_fine : v ≡ Fine
  pub room_for : Room (length xs) s

module _ (xs : List ℕ) (row v : Verdict) (s : Section) where
  pub edit-passed : edit_verdict xs row v s ≡ Fine → Passed xs row v s
  edit-passed a =
      let one = then-fine (checked xs) _ a in
      let two = then-fine row _ one.1 in
      let three = then-fine v _ two.1 in
      record { section_fine = one.0; row_fine = two.0; link_fine = three.0; room_for = room-passed (length xs) (section_length s) three.1 }

  pub pass-edit : Passed xs row v s → edit_verdict xs row v s ≡ Fine
  pass-edit p =
      fine-then _ _ p.section_fine (fine-then _ _ p.row_fine (fine-then _ _ p.link_fine (room-pass (length xs) (section_length s) p.room_for)))

-- ---- outcomes

-- accepted: the answer is the total of s, and the buffer, which is as long as it was, is new and holds s
pub record Stepped (s : Section) (new old : List ℕ) (o : Outcome) : Type 0 where
  pub verdict : o.verdict ≡ Fine
  pub total : o.total ≡ full_length s
  pub buffer : o.buffer ≡ new
  pub holds : Holds s o.buffer
  pub size : length o.buffer ≡ length old

-- refused: the total is 0 and the buffer is as it was
pub record Unchanged (r : Refusal) (old : List ℕ) (o : Outcome) : Type 0 where
  pub verdict : o.verdict ≡ Err r
  pub total : o.total ≡ 0
  pub buffer : o.buffer ≡ old

pub done-verdict : (v : Verdict) (n : ℕ) (new old : List ℕ) → (done v n new old).verdict ≡ v
unfolding done
done-verdict (Ok _) n new old = refl
done-verdict (Err r) n new old = refl

done_refused : (v : Verdict) (r : Refusal) (n : ℕ) (new old : List ℕ) → (done v n new old).verdict ≡ Err r → Unchanged r old (done v n new old)
unfolding done
done_refused v r n new old e = rw (sym (done-verdict v n new old) ∙ e) (record { verdict = refl; total = refl; buffer = refl })

pub replaced-verdict : (xs : List ℕ) (k : ℕ) (v : Verdict) (l : Link) → (replaced xs k v l).verdict ≡ replace_verdict xs k v l
unfolding replaced
replaced-verdict xs k v l = done-verdict (replace_verdict xs k v l) _ _ xs

pub appended-verdict : (xs : List ℕ) (v : Verdict) (l : Link) → (appended xs v l).verdict ≡ append_verdict xs v l
unfolding appended
appended-verdict xs v l = done-verdict (append_verdict xs v l) _ _ xs

pub made-verdict : (xs : List ℕ) (v : Verdict) (s : Section) → (made xs v s).verdict ≡ make_verdict (length xs) v s
unfolding made
made-verdict xs v s = done-verdict (make_verdict (length xs) v s) _ _ xs

-- of what the calls are handed, row by row
pub replacing-verdict : (xs : List ℕ) (k : ℕ) (t : List ℕ) (i : LinkInfo)
    → (replacing xs k t i).verdict ≡ edit_verdict xs (number_row xs k) (check_link t i) (with_link (section_at xs) k (link_of t i))
unfolding replacing replace_verdict
replacing-verdict xs k t i = replaced-verdict xs k (check_link t i) (link_of t i)

pub appending-verdict : (xs t : List ℕ) (i : LinkInfo) → (appending xs t i).verdict ≡ edit_verdict xs (count_row xs) (check_link t i) (with_next (section_at xs) (link_of t i))
unfolding appending append_verdict
appending-verdict xs t i = appended-verdict xs (check_link t i) (link_of t i)

pub making-verdict : (xs : List ℕ) (h : RctHeader) (beside : ℕ) (t : List ℕ) (d : Range)
    → (making xs h beside t d).verdict ≡ check_making h beside (length t) d ▷ room_rows (length xs) (section_length (bare h (loop_of beside t d)))
unfolding making make_verdict
making-verdict xs h beside t d = made-verdict xs (check_making h beside (length t) d) (bare h (loop_of beside t d))

-- a call that answers a refusal leaves every byte
pub replaced-refused : (xs : List ℕ) (k : ℕ) (v : Verdict) (l : Link) (r : Refusal) → (replaced xs k v l).verdict ≡ Err r → Unchanged r xs (replaced xs k v l)
unfolding replaced
replaced-refused xs k v l r = done_refused (replace_verdict xs k v l) r _ _ xs

pub appended-refused : (xs : List ℕ) (v : Verdict) (l : Link) (r : Refusal) → (appended xs v l).verdict ≡ Err r → Unchanged r xs (appended xs v l)
unfolding appended
appended-refused xs v l r = done_refused (append_verdict xs v l) r _ _ xs

pub made-refused : (xs : List ℕ) (v : Verdict) (s : Section) (r : Refusal) → (made xs v s).verdict ≡ Err r → Unchanged r xs (made xs v s)
unfolding made
made-refused xs v s r = done_refused (make_verdict (length xs) v s) r _ _ xs

-- s' is written over the section that the buffer holds
written-stepped : (s s' : Section) (xs : List ℕ) → Holds s xs → Fits checked_demands s' → full_length s' ≤ length xs → Stepped s' (written xs s') xs (done Fine (full_length s') (written xs s') xs)
unfolding done written
written-stepped s s' xs h f r =
    let t : total_of xs ≤ length xs = omega (arith, holds-total s xs h, length-sealed s, length-append (sealed s) h.rest, ap length (holds-sealed s xs h)) in
    record {
      verdict = refl;
      total = refl;
      buffer = refl;
      holds = sealed-holds s' _ f;
      size = simp (length-append, length-sealed s', length-replicate, length-drop) (omega arith);
    }

-- ---- what can be done to a section s in so much room

pub record CanReplace (s : Section) (room k : ℕ) (v : Verdict) (l : Link) : Type 0 where
  pub below : k < length s.links
  pub link : v ≡ Fine
  pub room_for : Room room (with_link s k l)

pub record CanAppend (s : Section) (room : ℕ) (v : Verdict) (l : Link) : Type 0 where
  pub below : length s.links < most_links
  pub link : v ≡ Fine
  pub room_for : Room room (with_next s l)

pub record CanMake (room : ℕ) (v : Verdict) (s : Section) : Type 0 where
  pub parts : v ≡ Fine
  pub room_for : Room room s

-- ---- replacing and appending, with a verdict v that lets through only links that fit

module _ (v : Verdict) (l : Link) (good : v ≡ Fine → LinkFits l) (s : Section) (xs : List ℕ) (h : Holds s xs) where
  -- of the section that the buffer holds: it is what is read, and its count is what is read
  same : section_at xs ≡ s
  same = (holds-known s xs h).same

  count : count_at xs ≡ length s.links
  count = sym (count_is xs) ∙ ap (λ (r : Section). length r.links) same

  pub replace-can : (k : ℕ) → replace_verdict xs k v l ≡ Fine → CanReplace s (length xs) k v l
  unfolding replace_verdict
  replace-can k a =
      let p = edit-passed xs (number_row xs k) v (with_link (section_at xs) k l) a in
      record { below = rw (← count) (number_passed xs k p.row_fine); link = p.link_fine; room_for = rw (← same) p.room_for }

  pub can-replace : (k : ℕ) → CanReplace s (length xs) k v l → replace_verdict xs k v l ≡ Fine
  unfolding replace_verdict
  can-replace k c =
      rw same
      (pass-edit xs (number_row xs k) v (with_link s k l)
      (record { section_fine = (holds-known s xs h).passed; row_fine = number-pass xs k (omega (arith, count, c.below)); link_fine = c.link; room_for = c.room_for }))

  pub stepped : (k : ℕ) → CanReplace s (length xs) k v l → Stepped (with_link s k l) (written xs (with_link s k l)) xs (replaced xs k v l)
  unfolding replaced
  stepped k c =
      rw (can-replace k c, same)
      (written-stepped s (with_link s k l) xs h (with-fits s k l h.fits (good c.link) c.below c.room_for.fit) c.room_for.enough)

  pub append-can : append_verdict xs v l ≡ Fine → CanAppend s (length xs) v l
  unfolding append_verdict
  append-can a =
      let p = edit-passed xs (count_row xs) v (with_next (section_at xs) l) a in
      record { below = rw (← count) (passed-leb most_links (count_at xs) _ _ _ p.row_fine); link = p.link_fine; room_for = rw (← same) p.room_for }

  pub can-append : CanAppend s (length xs) v l → append_verdict xs v l ≡ Fine
  unfolding append_verdict
  can-append c =
      rw same
      (pass-edit xs (count_row xs) v (with_next s l)
      (record { section_fine = (holds-known s xs h).passed; row_fine = pass-leb most_links (count_at xs) _ _ _ (omega (arith, count, c.below)); link_fine = c.link; room_for = c.room_for }))

  pub append-stepped : CanAppend s (length xs) v l → Stepped (with_next s l) (written xs (with_next s l)) xs (appended xs v l)
  unfolding appended
  append-stepped c =
      rw (can-append c, same)
      (written-stepped s (with_next s l) xs h (next_fits s l h.fits (good c.link) c.below c.room_for.fit) c.room_for.enough)

-- ---- making, in any buffer, with a verdict v that lets through only a header with the syntax indicator and a loop, that fit

pub record Parts (h : RctHeader) (b : Block) : Type 0 where
  pub header : RctHeaderFits h
  pub indicated : h.section.section_syntax_indicator ≡ true
  pub loop : BlockFits b

module _ (v : Verdict) (h : RctHeader) (b : Block) (good : v ≡ Fine → Parts h b) (xs : List ℕ) where
  pub make-can : make_verdict (length xs) v (bare h b) ≡ Fine → CanMake (length xs) v (bare h b)
  unfolding make_verdict
  make-can a =
      let two = then-fine v _ a in
      record { parts = two.0; room_for = room-passed (length xs) (section_length (bare h b)) two.1 }

  pub can-make : CanMake (length xs) v (bare h b) → make_verdict (length xs) v (bare h b) ≡ Fine
  unfolding make_verdict
  can-make c = fine-then _ _ c.parts (room-pass (length xs) (section_length (bare h b)) c.room_for)

  pub make-stepped : CanMake (length xs) v (bare h b) → Stepped (bare h b) (fresh xs (bare h b)) xs (made xs v (bare h b))
  unfolding made done fresh
  make-stepped c =
      let f = good c.parts in
      rw (can-make c) (record {
        verdict = refl;
        total = refl;
        buffer = refl;
        holds = sealed-holds (bare h b) _ (record { header = f.header; count = omega arith; links = tt; loop = f.loop; indicated = λ e. f.indicated; fits = c.room_for.fit });
        size = simp (length-append, length-sealed (bare h b), length-drop) (omega (arith, c.room_for.enough));
      })

-- ---- the same, of a buffer of bytes

pub replace-checked : (xs : List ℕ) (k : ℕ) (v : Verdict) (l : Link) → replace_verdict xs k v l ≡ Fine → checked xs ≡ Fine
unfolding replace_verdict
replace-checked xs k v l f = (edit-passed xs (number_row xs k) v (with_link (section_at xs) k l) f).section_fine

pub append-checked : (xs : List ℕ) (v : Verdict) (l : Link) → append_verdict xs v l ≡ Fine → checked xs ≡ Fine
unfolding append_verdict
append-checked xs v l f = (edit-passed xs (count_row xs) v (with_next (section_at xs) l) f).section_fine

module _ (xs : List ℕ) (b : Bytes xs) (v : Verdict) (l : Link) (good : v ≡ Fine → LinkFits l) where
  pub replaced-stepped : (k : ℕ) → (replaced xs k v l).verdict ≡ Fine → Stepped (with_link (section_at xs) k l) (written xs (with_link (section_at xs) k l)) xs (replaced xs k v l)
  replaced-stepped k a =
      let f : replace_verdict xs k v l ≡ Fine = sym (replaced-verdict xs k v l) ∙ a in
      let h = checked-holds xs b (replace-checked xs k v l f) in
      stepped v l good (section_at xs) xs h k (replace-can v l good (section_at xs) xs h k f)

  pub appended-stepped : (appended xs v l).verdict ≡ Fine → Stepped (with_next (section_at xs) l) (written xs (with_next (section_at xs) l)) xs (appended xs v l)
  appended-stepped a =
      let f : append_verdict xs v l ≡ Fine = sym (appended-verdict xs v l) ∙ a in
      let h = checked-holds xs b (append-checked xs v l f) in
      append-stepped v l good (section_at xs) xs h (append-can v l good (section_at xs) xs h f)

pub made-stepped : (xs : List ℕ) (v : Verdict) (h : RctHeader) (b : Block) → (v ≡ Fine → Parts h b) → (made xs v (bare h b)).verdict ≡ Fine
    → Stepped (bare h b) (fresh xs (bare h b)) xs (made xs v (bare h b))
made-stepped xs v h b good a = make-stepped v h b good xs (make-can v h b good xs (sym (made-verdict xs v (bare h b)) ∙ a))
