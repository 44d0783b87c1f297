-- Making: the bytes that are stored, and its outcome, verdict by verdict.
-- Assumes nothing.
use Prim.Native.Nat.{ℕ, ◌+◌, ◌-◌, ◌%◌, ◌≤◌}
use mathlib.Core.Path.{◌≡◌, refl, ap, ◌∙◌}
use mathlib.Core.List.{List, ◌++◌}
use native.Mathlib.Nat.{zero-add}
use native.Mathlib.Omega.{arith}
use lib.ListN.{length, take, drop}
use lib.Seq.{sets}
use Rattle.length_field.specs.Lengths.{longest, widest_beside, length_bytes, block_bytes}
use Rattle.byte_stores.specs.Stores.{put_at, Wrote}
use Rattle.wire.specs.declared.verdict.Refusal.{Refusal}
use Rattle.wire.proofs.Verdicts.{go_on, refused-then}
use Rattle.byte_stores.proofs.Writing.{then, wrote-length, copied}
use Rattle.length_field.proofs.Written.{field_put}
use Rattle.link.specs.declared.Range.{Range}
use Rattle.link_draft.proofs.Sizes.{range_length}
use Rattle.link_draft.proofs.Putting.{range-copied}
use Rattle.section_header.specs.Syntax.{header_bytes}
use Rattle.frame.specs.Syntax.{crc_length, uncounted}
use Rattle.frame.specs.Ending.{sealed_at, seal_at, seal_end}
use Rattle.frame.proofs.Endings.{sealed-room}
use Rattle.section_header.proofs.HeaderLaws.{Narrow, narrowed-whole}
use Rattle.rct.specs.declared.RctHeader.{RctHeader}
use Rattle.rct.specs.Syntax.{head_length, shortest, Section, head_bytes, payload, section_length, full_length, section_bytes}
use Rattle.rct.proofs.Accepted.{length-payload, length-section}
use Rattle.rct_edit.specs.Edit.{bare, room_rows, make_verdict, fresh, made}
use Rattle.rct_edit.proofs.Assembled.{assembled-fresh}
use Rattle.rct_edit.specs.Making.{check_making, narrowed_header, LoopNarrow, loop_of}
use Rattle.rct_edit.specs.Calls.{making}
use Rattle.rct_edit.proofs.Narrow.{header-written, loop-narrow}
use Rattle.rct_edit.proofs.Outcomes.{Came, done-stops, done-goes, Roomy, room-passed}
use Rattle.std.specs.Prelude.{Err, Ok, Result}
use Rattle.wire.specs.Verdict.{Fine}

-- ---- the stores

-- a header that passed its check, and a length that the field tells, are written whole
pub head-whole : (h : RctHeader) (len : ℕ) → Narrow h.section → len ≤ longest → head_bytes (narrowed_header h) (len % (longest + 1)) 0 ≡ head_bytes h len 0
head-whole h len n l = let m : len % (longest + 1) ≡ len = omega arith in rw (narrowed-whole h.section n, m)

pub loop-put : (xs ys zs bs t : List ℕ) (beside : ℕ) (d : Range) → LoopNarrow beside t d → head_length + 2 + d.length ≤ length xs
    → bs ≡ length_bytes (beside % (widest_beside + 1)) (d.length % (longest + 1)) → ys ≡ put_at xs head_length bs → zs ≡ put_at ys (head_length + 2) (take (d.start + d.length - d.start) (drop d.start t))
    → Wrote xs head_length (block_bytes (loop_of beside t d)) zs (head_length + 2 + d.length)
unfolding block_bytes
loop-put xs ys zs bs t beside d n r b p q =
    let head : Wrote xs head_length (length_bytes beside d.length) ys (head_length + 2) = field_put xs ys bs head_length beside d.length n.narrow n.short (omega arith) b p in
    let body = range-copied ys zs t (head_length + 2) d q n.within (omega (arith, wrote-length head)) in
    rw (range_length t d n.within) (then head body)

-- ---- the outcome

module _ (xs : List ℕ) (h : RctHeader) (beside : ℕ) (t : List ℕ) (d : Range) where
  abbrev section_of : Section
  section_of = bare h (loop_of beside t d)

  pub make-own : (r : Refusal) (e : Result ℕ Refusal) → check_making h beside (length t) d ≡ Err r → e ≡ Err r → Came (making xs h beside t d) e xs
  unfolding making made make_verdict
  make-own r e c a = done-stops _ _ _ xs r e (refused-then (check_making h beside (length t) d) _ r c) a

  module _ (c : check_making h beside (length t) d ≡ Fine) (len : ℕ) (is : len ≡ shortest + d.length) where
    length-made : section_length section_of ≡ len
    unfolding section_length
    length-made = omega (arith, length-payload section_of, range_length t d (loop-narrow h beside t d c).within)

    rows : make_verdict (length xs) (check_making h beside (length t) d) section_of ≡ room_rows (length xs) len
    unfolding make_verdict
    rows = go_on (check_making h beside (length t) d) _ c ∙ rw length-made

    pub make-room : (r : Refusal) (e : Result ℕ Refusal) → room_rows (length xs) len ≡ Err r → e ≡ Err r → Came (making xs h beside t d) e xs
    unfolding making made
    make-room r e w a = done-stops _ _ _ xs r e (rows ∙ w) a

    pub make-done : (hs y1 y2 y3 : List ℕ) (end total : ℕ) (e : Result ℕ Refusal) → room_rows (length xs) len ≡ Fine
        → hs ≡ head_bytes (narrowed_header h) (len % (longest + 1)) 0 → y1 ≡ put_at xs 0 hs → Wrote y1 head_length (block_bytes (loop_of beside t d)) y2 end → y3 ≡ seal_at y2 end → total ≡ seal_end y2 end → e ≡ Ok total
        → Came (making xs h beside t d) e y3
    unfolding making made
    make-done hs y1 y2 y3 end total e w eh e1 e2 e3 et a =
        done-goes _ _ _ xs total y3 e (rows ∙ w) size bytes a
      where
        room : Roomy (length xs) len
        room = room-passed (length xs) len w

        body : block_bytes (loop_of beside t d) ≡ payload section_of
        body = unfold payload in refl

        front : length (head_bytes h len 0) ≡ head_length
        front = unfold head_bytes header_bytes length_bytes in refl

        whole : full_length section_of ≤ length xs
        whole = omega (arith, length-made, room.enough)

        wide : length (section_bytes section_of) + crc_length ≡ uncounted + len
        wide = length-section section_of ∙ ap (λ n. uncounted + n) length-made

        one : Wrote xs 0 (head_bytes h len 0) y1 (0 + head_length)
        one = copied xs y1 (head_bytes h len 0) 0 head_length (e1 ∙ ap (put_at xs 0) (eh ∙ head-whole h len (header-written h beside t d c).narrow (omega (arith, room.fit)))) front (omega (arith, room.enough, is))

        two : Wrote xs 0 (head_bytes h len 0 ++ block_bytes (loop_of beside t d)) y2 end
        two = then one e2

        same : head_bytes h len 0 ++ block_bytes (loop_of beside t d) ≡ section_bytes section_of
        same = unfold section_bytes in rw (length-made, body)

        at : end ≡ length (section_bytes section_of)
        at = two.place ∙ ap (λ ys. 0 + length ys) same ∙ zero-add (length (section_bytes section_of))

        sealed : (seal_end y2 end ≡ end + crc_length) × (seal_at y2 end ≡ sealed_at y2 end)
        sealed = sealed-room y2 end (omega (arith, at, wide, room.enough, wrote-length two))

        size : total ≡ full_length section_of
        size = omega (arith, et, sealed.0, at, wide, length-made)

        bytes : y3 ≡ fresh xs section_of
        bytes = assembled-fresh xs section_of y2 y3 whole (two.bytes ∙ ap (sets xs 0) same) (unfold sealed_at in (e3 ∙ sealed.1 ∙ rw at))
