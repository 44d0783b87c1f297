-- Demand 2, rebuilt: what the reading calls answer of an accepted section with the syntax indicator set, handed to making and to appending in any buffer with room, gives its bytes again.
-- Assumes nothing.
use Prim.Native.Nat.{ℕ, ◌≤◌, ◌<◌}
use mathlib.Core.Path.{◌≡◌, sym, ap, subst, ◌∙◌}
use native.Mathlib.Omega.{arith}
use mathlib.Core.Bool.{true}
use mathlib.Core.List.{List, ◌++◌, append_assoc}
use lib.ListN.{length, take, drop, get_or, length-take, get_or-append}
use lib.Seq.{get_or-take}
use Rattle.wire.specs.Lists.{Bytes}
use Rattle.wire.specs.Numbers.{bytes32}
use Rattle.crc.specs.Crc.{crc_of}
use Rattle.section_header.specs.Reading.{header_at}
use Rattle.frame.specs.Syntax.{uncounted, limit}
use Rattle.frame.specs.Reading.{plain_demands, declared, payload_end, total_of}
use Rattle.rct.specs.declared.RctHeader.{RctHeader}
use Rattle.rct.specs.Syntax.{Fits}
use Rattle.rct.specs.Reading.{count_at, section_at, plain}
use Rattle.rct.proofs.Accepted.{Accepted, accepted, accepted-fits}
use Rattle.rct.proofs.Checked.{holds-total}
use Rattle.rct_links.proofs.Images.{link-answer}
use Rattle.rct_edit.specs.Edit.{bare, Outcome, made}
use Rattle.rct_edit.proofs.Calls.{made-stepped}
use Rattle.rct_edit.proofs.Rebuilt as records
use Rattle.rct_demands.specs.Back.{plain_read}
use Rattle.rct_demands.specs.Again.{links_from, made_again, append_all, RebuiltSection}
use Rattle.rct_reader.specs.Sections.{section_info}
use Rattle.rct_reader.specs.declared.RctSection.{RctSection}
use Rattle.rct_reader.proofs.Wholes.{read-fine}
use Rattle.rct_demands.proofs.Again.{Held, stepped-held, Ran, ran, make-again}
use Rattle.wire.specs.Verdict.{Fine, verdict_of}
use Rattle.std.specs.Prelude.{Ok}

-- two lists that begin alike tell the same total
total-same : (xs ys : List ℕ) (e : ℕ) → uncounted ≤ e → e ≤ length xs → total_of (take e xs ++ ys) ≡ total_of xs
total-same xs ys e h l = rw (at 1 (omega arith), at 2 (omega arith))
  where
    at : (i : ℕ) → i < e → get_or (take e xs ++ ys) i 0 ≡ get_or xs i 0
    at i u = get_or-append (take e xs) ys 0 i (simp length-take (omega arith)) ∙ get_or-take e xs i 0 u

-- of an accepted section whose syntax indicator is set, by the record that its bytes have
rebuilt-info : (xs zs : List ℕ) → Bytes xs → plain xs ≡ Fine → (header_at xs).section_syntax_indicator ≡ true
    → declared xs ≤ limit → total_of xs ≤ length zs → RebuiltSection xs zs (section_info xs)
rebuilt-info xs zs b v set l r =
    record {
      links_are_read = λ k h. ap verdict_of (link-answer xs b k v h);
      none_refused = all.accepted;
      total = all.held.total ∙ sym (holds-total all.held.section last.buffer all.held.holds) ∙ ap total_of final ∙ same;
      bytes = final;
    }
  where
    a : Accepted plain_demands xs
    a = accepted plain_demands xs b v

    f : Fits plain_demands (section_at xs)
    f = accepted-fits plain_demands xs b v

    start : Outcome
    start = made zs Fine (bare (section_at xs).header (section_at xs).loop)

    again : made_again zs xs (section_info xs) ≡ start
    again = make-again xs b v set zs

    old : records.Rebuilt xs zs (section_at xs)
    old = records.rebuilt xs zs b v set l r

    first : Held (made_again zs xs (section_info xs))
    first = rw again (stepped-held _ _ _ start (made-stepped zs Fine (section_at xs).header (section_at xs).loop (λ e. record { header = f.header; indicated = unfold section_at in set; loop = f.loop }) old.made_fine))

    all : Ran xs b v (made_again zs xs (section_info xs)) (count_at xs) 0
    all = ran xs b v (count_at xs) 0 (made_again zs xs (section_info xs)) (omega arith) first (rw again (unfold section_at in old.appended_fine))

    last : Outcome
    last = append_all (made_again zs xs (section_info xs)) xs (links_from (count_at xs) 0 xs)

    final : last.buffer ≡ (take (payload_end xs) xs ++ bytes32 (crc_of (take (payload_end xs) xs))) ++ drop (total_of xs) zs
    final = all.buffer ∙ rw again (unfold section_at in old.bytes)

    same : total_of ((take (payload_end xs) xs ++ bytes32 (crc_of (take (payload_end xs) xs))) ++ drop (total_of xs) zs) ≡ total_of xs
    same = rw append_assoc (total-same xs _ (payload_end xs) (omega (arith, a.frame.large)) (omega (arith, a.frame.within)))

-- of the record that the plain reading answers
pub rebuilt-section : (xs zs : List ℕ) (s : RctSection) → Bytes xs → plain_read xs ≡ Ok s → s.header.section.section_syntax_indicator ≡ true
    → declared xs ≤ limit → total_of xs ≤ length zs → RebuiltSection xs zs s
rebuilt-section xs zs s b p i l r =
    let h = read-fine (plain xs) xs s p in
    subst (λ (z : RctSection). RebuiltSection xs zs z) h.1 (rebuilt-info xs zs b h.0 (ap (λ (z : RctSection). z.header.section.section_syntax_indicator) h.1 ∙ i) l r)
