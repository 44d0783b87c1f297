-- The limit of section_length in the calls' answers: what the checked reading accepts has at most 4,096 bytes, and so has what make, append
-- and replace leave. A section with more is not edited: 28 with its own section_length and 4093, and its bytes stay.
-- Assumes nothing.
use Prim.Native.Nat.{ℕ, ◌≤◌}
use mathlib.Core.Path.{◌≡◌, ap}
use native.Mathlib.Omega.{arith}
use mathlib.Core.List.{List}
use Rattle.wire.specs.Lists.{Bytes}
use Rattle.link.specs.Records.{link_of}
use Rattle.link.specs.declared.LinkInfo.{LinkInfo}
use Rattle.link.specs.declared.Range.{Range}
use Rattle.link_draft.specs.Carried.{Carried}
use Rattle.link_draft.specs.Checks.{check_link}
use Rattle.frame.specs.Reading.{declared}
use Rattle.frame.proofs.Limit.{AboveLimit}
use Rattle.rct.specs.declared.RctHeader.{RctHeader}
use Rattle.rct.specs.Syntax.{rct}
use Rattle.rct.specs.Reading.{checked}
use Rattle.rct.proofs.Checked.{checked-iff}
use Rattle.rct_edit.specs.Edit.{Outcome}
use Rattle.rct_edit.specs.Making.{HeaderCarried}
use Rattle.rct_edit.specs.Calls.{making, appending, replacing}
use Rattle.rct_edit.proofs.Calls.{Unchanged, replaced-refused, appended-refused}
use Rattle.rct_edit.proofs.Order.{replacing-above, appending-above}
use Rattle.rct_demands.specs.Back.{checked_read, SectionBack}
use Rattle.rct_reader.specs.declared.RctSection.{RctSection}
use Rattle.rct_reader.proofs.Wholes.{read-fine}
use Rattle.rct_demands.proofs.ReadBack.{made-reads-back, replaced-reads-back, appended-reads-back}
use Rattle.std.specs.Prelude.{Ok}
use Rattle.wire.specs.Verdict.{Fine}

pub checked-most : (xs : List ℕ) (s : RctSection) → checked_read xs ≡ Ok s → s.total ≤ 4096
checked-most xs s e =
    let h = read-fine (checked xs) xs s e in
    omega (arith, ap (λ (z : RctSection). z.total) h.1, ((checked-iff xs).0 h.0).limited)

-- ---- what a call accepts

back-most : (o : Outcome) (h : RctHeader) (n beside : ℕ) (descriptors : List ℕ) → SectionBack o h n beside descriptors → o.total ≤ 4096
back-most o h n beside descriptors b = omega (arith, checked-most o.buffer b.read b.answer, b.total)

pub made-most : (xs : List ℕ) (h : RctHeader) (beside : ℕ) (t : List ℕ) (d : Range) → Bytes t → HeaderCarried h → (making xs h beside t d).verdict ≡ Fine
    → (making xs h beside t d).total ≤ 4096
made-most xs h beside t d bt c a = back-most _ _ _ _ _ (made-reads-back xs h beside t d bt c a).section

module _ (xs : List ℕ) (b : Bytes xs) (t : List ℕ) (a : LinkInfo) (bt : Bytes t) (c : Carried a) where
  pub appended-most : (appending xs t a).verdict ≡ Fine → (appending xs t a).total ≤ 4096
  appended-most f = back-most _ _ _ _ _ (appended-reads-back xs b t a bt c f).section

  pub replaced-most : (k : ℕ) → (replacing xs k t a).verdict ≡ Fine → (replacing xs k t a).total ≤ 4096
  replaced-most k f = back-most _ _ _ _ _ (replaced-reads-back xs b t a bt c k f).section

-- ---- a section that is above the limit already

-- 28 with its own section_length; the total is 0, and every byte stays
abbrev pub NotEdited : List ℕ → Outcome → Type 0
NotEdited xs = Unchanged (record { number = 28; first = declared xs; second = 4093 }) xs

module _ (xs : List ℕ) (t : List ℕ) (a : LinkInfo) (above : AboveLimit rct xs (declared xs) 4093) where
  pub not-appended : NotEdited xs (appending xs t a)
  unfolding appending
  not-appended = appended-refused xs (check_link t a) (link_of t a) _ (appending-above xs t a (declared xs) 4093 above)

  pub not-replaced : (k : ℕ) → NotEdited xs (replacing xs k t a)
  unfolding replacing
  not-replaced k = replaced-refused xs k (check_link t a) (link_of t a) _ (replacing-above xs k t a (declared xs) 4093 above)
