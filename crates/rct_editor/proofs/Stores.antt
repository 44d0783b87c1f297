-- What the steps of the calls store: each is a run of the syntax's bytes.
-- Assumes nothing.
use Prim.Native.Nat.{ℕ, ◌+◌, ◌-◌, ◌%◌, ◌≤◌}
use mathlib.Core.Path.{◌≡◌, sym, ap, ◌∙◌}
use mathlib.Core.List.{List, ◌++◌}
use native.Mathlib.Omega.{arith}
use lib.ListN.{length, length-set}
use lib.Seq.{sets, length-sets}
use Rattle.frame.specs.Syntax.{crc_length, uncounted}
use Rattle.frame.specs.Reading.{payload_end, total_of}
use Rattle.wire.specs.Lists.{part}
use Rattle.length_field.specs.Lengths.{longest, widest_beside, length_bytes, block_bytes}
use Rattle.byte_stores.specs.Stores.{put_at, Wrote}
use Rattle.byte_stores.proofs.Writing.{then, wrote-length}
use Rattle.length_field.proofs.Written.{field_put}
use Rattle.link.specs.Syntax.{link_body}
use Rattle.link.specs.Records.{link_of}
use Rattle.link.specs.declared.LinkInfo.{LinkInfo}
use Rattle.field.specs.Fields.{low, link_length_reserved}
use Rattle.field.proofs.Checks.{low-whole}
use Rattle.link_draft.specs.Checks.{check_link}
use Rattle.link_draft.specs.Lengths.{link_length}
use Rattle.link_draft.specs.Writing.{link_put}
use Rattle.link_draft.proofs.Written.{written-body}
use Rattle.link_draft.proofs.Exact.{passed}
use Rattle.rct_edit.specs.Rehead.{rehead}
use Rattle.frame.specs.Ending.{seal_at, seal_end}
use Rattle.frame.proofs.Endings.{sealed-room}
use Rattle.rct_stores.specs.Stores.{filled_up}
use Rattle.rct_editor.specs.Splicing.{entry_bytes, length_between, spliced, finished, between_bytes}
use Rattle.rct_editor.proofs.Sizes.{body-size, entry-size}
use Rattle.wire.specs.Verdict.{Fine}

-- ---- a link's entry

pub entry-put : (xs ys zs bs : List ℕ) (at n : ℕ) (t : List ℕ) (k : LinkInfo) → check_link t k ≡ Fine → link_length k ≤ longest → at + 2 + link_length k ≤ length xs → n ≡ link_length k
    → bs ≡ length_bytes (low link_length_reserved k.fields.reserved_link_info_length % (widest_beside + 1)) (n % (longest + 1)) → ys ≡ put_at xs at bs → zs ≡ link_put ys (at + 2) t k
    → zs ≡ sets xs at (entry_bytes t k)
unfolding block_bytes link_of
entry-put xs ys zs bs at n t k c l r is b p w =
    (then head body).bytes ∙ ap (λ n. sets xs at (length_bytes k.fields.reserved_link_info_length n ++ link_body (link_of t k))) (sym (body-size t k c))
  where
    head : Wrote xs at (length_bytes k.fields.reserved_link_info_length (link_length k)) ys (at + 2)
    head = field_put xs ys bs at k.fields.reserved_link_info_length (link_length k) (passed t k c).end.beside l (omega arith) (b ∙ ap (λ m. length_bytes (low link_length_reserved k.fields.reserved_link_info_length % (widest_beside + 1)) (m % (longest + 1))) is ∙ ap (λ r. length_bytes (r % (widest_beside + 1)) (link_length k % (longest + 1))) (low-whole link_length_reserved k.fields.reserved_link_info_length (passed t k c).end.beside)) p

    room : at + 2 + link_length k ≤ length ys
    room = omega (arith, wrote-length head)

    body : Wrote ys (at + 2) (link_body (link_of t k)) zs (at + 2 + link_length k)
    body = record { bytes = w ∙ written-body ys (at + 2) t k c room; place = omega (arith, body-size t k c) }

-- ---- the three of them: the tail, the entry, the numbers

pub spliced-put : (xs y1 y2 y3 : List ℕ) (p q count : ℕ) (t : List ℕ) (k : LinkInfo) (to n len : ℕ) → check_link t k ≡ Fine
    → y1 ≡ sets xs to (part xs q n) → y2 ≡ sets y1 p (entry_bytes t k) → y3 ≡ rehead y2 len count
    → to ≡ p + 2 + link_length k → n ≡ payload_end xs - q → y3 ≡ spliced xs p q (entry_bytes t k) len count
unfolding spliced
spliced-put xs y1 y2 y3 p q count t k to n len c e1 e2 e3 et en =
    let at : to ≡ p + length (entry_bytes t k) = omega (arith, entry-size t k c) in
    e3
    ∙ ap (λ ys. rehead ys len count) (e2 ∙ ap (λ ys. sets ys p (entry_bytes t k)) (e1 ∙ ap (λ m. sets xs m (part xs q n)) at ∙ ap (λ m. sets xs (p + length (entry_bytes t k)) (part xs q m)) en))

-- ---- and then the CRC, for which there is room, and the filler

length-spliced : (xs : List ℕ) (p q : ℕ) (c : List ℕ) (len count : ℕ) → length (spliced xs p q c len count) ≡ length xs
unfolding spliced rehead
length-spliced xs p q c len count = simp (length-set, length-sets)

pub finished-put : (xs y1 y2 y3 : List ℕ) (p q count : ℕ) (t : List ℕ) (k : LinkInfo) (len e new total : ℕ) → uncounted + len ≤ length xs
    → y1 ≡ spliced xs p q (entry_bytes t k) len count → y2 ≡ seal_at y1 e → y3 ≡ filled_up y2 new total
    → len ≡ length_between xs p q (link_length k) → e ≡ uncounted + len - crc_length → new ≡ seal_end y1 e → total ≡ total_of xs
    → (new ≡ uncounted + len) × (y3 ≡ between_bytes xs p q count t k)
unfolding between_bytes finished
finished-put xs y1 y2 y3 p q count t k len e new total room e1 e2 e3 el ee en et =
    let size : length y1 ≡ length xs = ap length e1 ∙ length-spliced xs p q (entry_bytes t k) len count in
    let s = sealed-room y1 e (omega (arith, size)) in
    let n : new ≡ uncounted + len = omega (arith, s.0) in
    (n, e3 ∙ rw (n, et, e2 ∙ s.1, ee, e1, el))
