-- Request 106 took a row out of the verdicts on appending and replacing: 27, of a body above what 12 bits tell, between 28 and 29. It
-- changed no answer: such a body makes the section too long, and 28 comes first. With the row put back each verdict is the same.
-- Assumes nothing.
use mathlib.Core.Path.{◌≡◌, refl, sym, ap}
use Prim.Native.Nat.{ℕ, ◌≤◌}
use mathlib.Core.List.{List}
use lib.ListN.{length}
use Rattle.length_field.specs.Lengths.{longest}
use Rattle.wire.specs.Verdict.{◌▷◌, Fine, Verdict}
use Rattle.wire.proofs.Verdicts.{go_on, passed-ltb, pass-ltb}
use Rattle.link.specs.Syntax.{Link, link_body}
use Rattle.frame.specs.Syntax.{limit}
use Rattle.rct.specs.Syntax.{Section, section_length}
use Rattle.rct.specs.Reading.{number_row, section_at, checked}
use Rattle.rct.proofs.Checked.{count_is, number_passed}
use Rattle.rct_edit.specs.Edit.{with_link, with_next, length_row, count_row, room_row, room_rows, edit_verdict, replace_verdict, append_verdict}
use Rattle.rct_edit.proofs.WithRow.{body_row, with_row}
use Rattle.rct_edit.proofs.Records.{with-short, next-short}
use Rattle.std.specs.Prelude.{Err, Ok}

-- what follows a row matters only where the row is passed
then_same : (u w w' : Verdict) → (u ≡ Fine → w ≡ w') → u ▷ w ≡ u ▷ w'
unfolding ◌▷◌
then_same (Ok _) w w' e = e refl
then_same (Err r) w w' e = refl

with-row : (xs : List ℕ) (row v : Verdict) (l : Link) (s : Section) → (row ≡ Fine → section_length s ≤ limit → length (link_body l) ≤ longest)
    → edit_verdict xs row v s ≡ with_row xs row v l s
unfolding room_rows
with-row xs row v l s short =
    ap (λ r. checked xs ▷ r)
    (then_same row _ _ (λ p.
    ap (λ r. v ▷ r)
    (then_same (length_row (section_length s)) (room_row (length xs) (section_length s)) (body_row (length (link_body l)) ▷ room_row (length xs) (section_length s))
    (λ q. sym (go_on _ _ (pass-ltb longest (length (link_body l)) _ _ _ (short p (passed-ltb limit (section_length s) _ _ _ q))))))))

pub replace-with-row : (xs : List ℕ) (k : ℕ) (v : Verdict) (l : Link) → replace_verdict xs k v l ≡ with_row xs (number_row xs k) v l (with_link (section_at xs) k l)
unfolding replace_verdict
replace-with-row xs k v l =
    with-row xs (number_row xs k) v l (with_link (section_at xs) k l) (λ p. with-short (section_at xs) k l (rw (count_is xs) (number_passed xs k p)))

pub append-with-row : (xs : List ℕ) (v : Verdict) (l : Link) → append_verdict xs v l ≡ with_row xs (count_row xs) v l (with_next (section_at xs) l)
unfolding append_verdict
append-with-row xs v l = with-row xs (count_row xs) v l (with_next (section_at xs) l) (λ p. next-short (section_at xs) l)
