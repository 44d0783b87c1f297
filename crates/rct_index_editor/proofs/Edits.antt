-- What the edit answered tells what the index becomes.
-- Assumes nothing.
use Prim.Native.Nat.{ℕ, ◌<◌}
use mathlib.Core.Path.{◌≡◌, refl, sym, ap, ◌∙◌}
use mathlib.Core.List.{List}
use native.Mathlib.Omega.{arith}
use lib.ListN.{length}
use Rattle.wire.specs.Lists.{Bytes}
use Rattle.wire.specs.declared.verdict.Refusal.{Refusal}
use Rattle.wire.proofs.Lists.{bytes-at}
use Rattle.wire.proofs.Verdicts.{passed-leb, reached-refused, at-reached}
use Rattle.link.specs.Records.{link_of}
use Rattle.link.specs.declared.LinkInfo.{LinkInfo}
use Rattle.link_draft.specs.Checks.{check_link}
use Rattle.rct.specs.Syntax.{link_count_place, Section, full_length, entry_place}
use Rattle.rct.specs.Reading.{count_at, number_row, section_at}
use Rattle.rct.proofs.Checked.{checked-holds, count_is, number_passed}
use Rattle.rct_edit.specs.Edit.{most_links, with_link, with_next, count_row, replace_verdict, append_verdict, edit_verdict, Outcome, done, replaced, appended}
use Rattle.rct_edit.specs.Answers.{answer}
use Rattle.edit_answers.specs.Answers.{edited_by, spliced_at}
use Rattle.rct_edit.specs.Calls.{appending, replacing, placed, appending_placed, replacing_placed}
use Rattle.rct_edit.proofs.Calls.{edit-passed, done-verdict}
use Rattle.rct_edit.proofs.Placed.{placed-done, appending-edited, replacing-edited}
use Rattle.rct_index.specs.Index.{marks_in}
use Rattle.rct_index.specs.Editing.{told_anew, index_with, brought_up, indexed, appending_indexed, replacing_indexed}
use Rattle.rct_index.specs.declared.LinkMarks.{LinkMarks}
use Rattle.rct_index.specs.declared.RctIndex.{RctIndex}
use Rattle.rct_index.proofs.BroughtUp.{place-within}
use Rattle.rct_index.proofs.Marks.{record-marks}
use Rattle.rct_index_updater.specs.Bringing.{anew_by, last_of}
use Rattle.rct_index_updater.specs.Stages.{Numbers}
use Rattle.rct_index_updater.proofs.Tested.{numbers_fit}
use Rattle.edit_answers.specs.declared.Spliced.{Spliced}
use Rattle.std.specs.Prelude.{Err, Ok, Result}
use Rattle.wire.specs.Verdict.{Fine, Verdict}

-- ---- an answer of the edit's answer e and of an index

module _ (o : Outcome) (new old : RctIndex) (e : Result ℕ Refusal) where
  goes : (n : ℕ) (j : RctIndex) → answer o ≡ Ok n → o.verdict ≡ Fine → e ≡ Ok n → j ≡ new → record { edited = e; index = j } ≡ indexed o new old
  unfolding brought_up
  goes n j a v is f = λ i. record { edited = (is ∙ sym a) i; index = (f ∙ sym (ap (λ (v : Verdict). brought_up v new old) v)) i }

  stops : (r : Refusal) → answer o ≡ Err r → e ≡ Err r → record { edited = e; index = old } ≡ indexed o new old
  unfolding brought_up
  stops r a is = λ i. record { edited = (is ∙ sym a) i; index = sym (ap (λ (v : Verdict). brought_up v new old) (reached-refused o.verdict o.total r a)) i }

-- ---- the numbers that an accepted edit answers

numbers-are : (k n q old new k' n' q' old' new' : ℕ) → Numbers k n q old new → k ≡ k' → n ≡ n' → q ≡ q' → old ≡ old' → new ≡ new' → Numbers k' n' q' old' new'
numbers-are k n q old new k' n' q' old' new' m ek en eq eo ew =
    record {
      number = omega (arith, m.number);
      count = omega (arith, m.count);
      place = omega (arith, m.place);
      before = omega (arith, m.before);
      total = omega (arith, m.total);
    }

done-total : (v : Verdict) (n : ℕ) (new old : List ℕ) → v ≡ Fine → (done v n new old).total ≡ n
unfolding done
done-total v n new old e = rw e

-- the edit o at number k of the section s made s', and answered these numbers, which were handed on
pub record Told (o : Outcome) (s : Section) (k : ℕ) (s' : Section) (total before count at : ℕ) : Type 0 where
  pub accepted : answer o ≡ Ok total
  pub fine : o.verdict ≡ Fine
  pub old : full_length s ≡ before
  pub new : full_length s' ≡ total
  pub links : length s.links ≡ count
  pub place : entry_place s k ≡ at
  pub numbers : Numbers k count at before total

-- an edit with its own row, which lets through only numbers below the most
module _ (xs : List ℕ) (b : Bytes xs) (row v : Verdict) (k : ℕ) (s' : Section) (below : row ≡ Fine → k < most_links) where
  numbers : edit_verdict xs row v s' ≡ Fine → Numbers k (length (section_at xs).links) (entry_place (section_at xs) k) (full_length (section_at xs)) (full_length s')
  numbers f =
      let p = edit-passed xs row v s' f in
      let fits = (checked-holds xs b p.section_fine).fits in
      record {
        number = below p.row_fine;
        count = omega (arith, fits.count);
        place = place-within (section_at xs) k (omega (arith, fits.fits));
        before = omega (arith, fits.fits);
        total = omega (arith, p.room_for.fit);
      }

  edit-told : (new : List ℕ) (total before count at : ℕ) → placed (done (edit_verdict xs row v s') (full_length s') new xs) (section_at xs) k ≡ spliced_at total before count at
      → Told (done (edit_verdict xs row v s') (full_length s') new xs) (section_at xs) k s' total before count at
  edit-told new total before count at e =
      let d = placed-done (done (edit_verdict xs row v s') (full_length s') new xs) _ _ _ _ _ _ _ e in
      let f = sym (done-verdict (edit_verdict xs row v s') (full_length s') new xs) ∙ d.fine in
      let size = sym (done-total _ _ new xs f) ∙ d.total in
      record {
        accepted = sym (at-reached _ _ total d.fine d.total);
        fine = d.fine;
        old = d.before;
        new = size;
        links = d.count;
        place = d.at;
        numbers = numbers-are _ _ _ _ _ _ _ _ _ _ (numbers f) refl d.count d.at d.before size;
      }

-- what the code then answers
module _ (o : Outcome) (s : Section) (k : ℕ) (s' : Section) (total before count at : ℕ) (told : Told o s k s' total before count at) (t : List ℕ) (a : LinkInfo) (i : RctIndex) where
  pub told-goes : (k' : ℕ) (e : Result ℕ Refusal) (j : RctIndex) (m : LinkMarks) → k ≡ k' → e ≡ Ok total → m ≡ marks_in a.fields → j ≡ told_anew i k' count at before total m
      → record { edited = e; index = j } ≡ indexed o (index_with i s k (link_of t a) s') i
  told-goes k' e j m ek ee em ej = goes o _ i e total j told.accepted told.fine ee (ej ∙ sym same)
    where
      same : index_with i s k (link_of t a) s' ≡ told_anew i k' count at before total m
      same = λ x. told_anew i (ek x) (told.links x) (told.place x) (told.old x) (told.new x) ((record-marks t a ∙ sym em) x)

-- ---- appending

module _ (xs t : List ℕ) (a : LinkInfo) (i : RctIndex) where
  abbrev next : Section
  next = with_next (section_at xs) (link_of t a)

  module _ (b : Bytes xs) (total before count at : ℕ) (e : appending_placed xs t a ≡ spliced_at total before count at) where
    append-told : Told (appending xs t a) (section_at xs) (length (section_at xs).links) next total before count at
    unfolding appending_placed appending appended append_verdict
    append-told =
        edit-told xs b (count_row xs) (check_link t a) (length (section_at xs).links) next
        (λ f. omega (arith, count_is xs, passed-leb most_links (count_at xs) _ _ _ f)) _ total before count at e

    append-numbers : Numbers count count at before total
    append-numbers = numbers-are _ _ _ _ _ _ _ _ _ _ append-told.numbers append-told.links refl refl refl refl

    append-goes : (m : LinkMarks) → m ≡ marks_in a.fields → record { edited = Ok total; index = told_anew i count count at before total m } ≡ appending_indexed xs t a i
    unfolding appending_indexed
    append-goes m em = told-goes _ _ _ _ total before count at append-told t a i count _ _ m append-told.links refl em refl

  append-stops : (r : Refusal) → appending_placed xs t a ≡ Err r → record { edited = Err r; index = i } ≡ appending_indexed xs t a i
  unfolding appending_indexed edited_by
  append-stops r p = stops (appending xs t a) _ i _ r (sym (appending-edited xs t a) ∙ ap edited_by p) refl

  pub append-indexed : Bytes xs → (put : Result Spliced Refusal) (m : LinkMarks) → put ≡ appending_placed xs t a → m ≡ marks_in a.fields
      → record { edited = edited_by put; index = anew_by i (last_of put) put m } ≡ appending_indexed xs t a i
  unfolding last_of anew_by edited_by
  append-indexed b (Ok done) m e em =
      rw (numbers_fit _ _ _ _ _ (append-numbers b done.total done.before done.count done.at (sym e))) (append-goes b done.total done.before done.count done.at (sym e) m em)
  append-indexed b (Err r) m e em = append-stops r (sym e)

-- ---- replacing

module _ (xs : List ℕ) (k : ℕ) (t : List ℕ) (a : LinkInfo) (i : RctIndex) where
  abbrev other : Section
  other = with_link (section_at xs) k (link_of t a)

  module _ (b : Bytes xs) (total before count at : ℕ) (e : replacing_placed xs k t a ≡ spliced_at total before count at) where
    replace-told : Told (replacing xs k t a) (section_at xs) k other total before count at
    unfolding replacing_placed replacing replaced replace_verdict
    replace-told =
        edit-told xs b (number_row xs k) (check_link t a) k other
        (λ f. omega (arith, number_passed xs k f, bytes-at xs link_count_place b)) _ total before count at e

    replace-numbers : Numbers k count at before total
    replace-numbers = replace-told.numbers

    replace-goes : (m : LinkMarks) → m ≡ marks_in a.fields → record { edited = Ok total; index = told_anew i k count at before total m } ≡ replacing_indexed xs k t a i
    unfolding replacing_indexed
    replace-goes m em = told-goes _ _ _ _ total before count at replace-told t a i k _ _ m refl refl em refl

  replace-stops : (r : Refusal) → replacing_placed xs k t a ≡ Err r → record { edited = Err r; index = i } ≡ replacing_indexed xs k t a i
  unfolding replacing_indexed edited_by
  replace-stops r p = stops (replacing xs k t a) _ i _ r (sym (replacing-edited xs k t a) ∙ ap edited_by p) refl

  pub replace-indexed : Bytes xs → (put : Result Spliced Refusal) (m : LinkMarks) → put ≡ replacing_placed xs k t a → m ≡ marks_in a.fields
      → record { edited = edited_by put; index = anew_by i k put m } ≡ replacing_indexed xs k t a i
  unfolding anew_by edited_by
  replace-indexed b (Ok done) m e em =
      rw (numbers_fit _ _ _ _ _ (replace-numbers b done.total done.before done.count done.at (sym e))) (replace-goes b done.total done.before done.count done.at (sym e) m em)
  replace-indexed b (Err r) m e em = replace-stops r (sym e)
