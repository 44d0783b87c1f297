-- section_syntax_indicator: what is made has it, append and replace keep it, refused or not, and what they accept had it. A section
-- without it is not made again.
-- Assumes nothing.
use Prim.Native.Nat.{ℕ}
use mathlib.Core.Path.{◌≡◌, refl, sym, ap, ◌∙◌}
use mathlib.Core.Bool.{Bool, true, false}
use mathlib.Core.List.{List}
use Rattle.wire.specs.Lists.{Bytes}
use Rattle.wire.specs.Refusals.{no_syntax_indicator}
use Rattle.wire.specs.Verdict.{bad, Fine, Verdict}
use Rattle.wire.specs.declared.verdict.Refusal.{Refusal}
use Rattle.link.specs.Records.{link_of}
use Rattle.link.specs.declared.LinkInfo.{LinkInfo}
use Rattle.link.specs.declared.Range.{Range}
use Rattle.link_draft.specs.Carried.{Carried}
use Rattle.link_draft.specs.Checks.{check_link}
use Rattle.section_header.specs.Reading.{header_at}
use Rattle.rct.specs.declared.RctHeader.{RctHeader}
use Rattle.rct.specs.Reading.{checked}
use Rattle.rct.proofs.Checked.{checked-iff}
use Rattle.rct_edit.specs.Edit.{Outcome}
use Rattle.rct_edit.specs.Making.{HeaderCarried}
use Rattle.rct_edit.specs.Calls.{making, appending, replacing}
use Rattle.rct_edit.proofs.Calls.{replaced-refused, appended-refused}
use Rattle.rct_edit.proofs.MakingOrder.{making-unindicated}
use Rattle.rct_demands.specs.Back.{checked_read}
use Rattle.rct_demands.specs.Again.{made_again}
use Rattle.rct_reader.specs.declared.RctSection.{RctSection}
use Rattle.rct_reader.proofs.Wholes.{read-fine}
use Rattle.rct_demands.proofs.ReadBack.{made-reads-back, replaced-reads-back, appended-reads-back}
use Rattle.std.specs.Prelude.{Err, Ok}

abbrev pub indicated : List ℕ → Bool
indicated xs = (header_at xs).section_syntax_indicator

-- whatever the checked reading's call accepts has it
pub checked-indicated : (xs : List ℕ) (s : RctSection) → checked_read xs ≡ Ok s → indicated xs ≡ true
checked-indicated xs s e = ((checked-iff xs).0 (read-fine (checked xs) xs s e).0).indicated

-- ---- making

pub made-indicated : (xs : List ℕ) (h : RctHeader) (beside : ℕ) (t : List ℕ) (d : Range) → Bytes t → HeaderCarried h → (making xs h beside t d).verdict ≡ Fine
    → indicated (making xs h beside t d).buffer ≡ true
made-indicated xs h beside t d bt c a = checked-indicated _ _ (made-reads-back xs h beside t d bt c a).section.answer

-- what plain reading answers of a section without it, and any other record without it, is refused: 38 (0, 0)
pub not-made-again : (xs zs : List ℕ) (s : RctSection) → s.header.section.section_syntax_indicator ≡ false → (made_again zs xs s).verdict ≡ bad no_syntax_indicator 0 0
not-made-again xs zs s e = (making-unindicated zs s.header _ xs s.descriptors 0 0).1 (record { clear = e; figures = (refl, refl) })

-- ---- append and replace

-- it was there and is there
abbrev Both : List ℕ → Outcome → Type 0
Both xs o = (indicated xs ≡ true) × (indicated o.buffer ≡ true)

-- a call that leaves a refused buffer as it was, and accepts only where it was there and then is there
keeps : (xs : List ℕ) (o : Outcome) (v : Verdict) → o.verdict ≡ v → ((r : Refusal) → o.verdict ≡ Err r → o.buffer ≡ xs) → (o.verdict ≡ Fine → Both xs o)
    → indicated o.buffer ≡ indicated xs
keeps xs o (Ok _) e refused accepted = let two = accepted e in two.1 ∙ sym two.0
keeps xs o (Err r) e refused accepted = ap indicated (refused r e)

module _ (xs : List ℕ) (b : Bytes xs) (t : List ℕ) (a : LinkInfo) (bt : Bytes t) (c : Carried a) where
  pub appended-indicated : (appending xs t a).verdict ≡ Fine → Both xs (appending xs t a)
  appended-indicated f = let r = appended-reads-back xs b t a bt c f in (checked-indicated xs _ r.was, checked-indicated _ _ r.section.answer)

  pub appended-keeps : indicated (appending xs t a).buffer ≡ indicated xs
  unfolding appending
  appended-keeps = keeps xs (appending xs t a) _ refl (λ r e. (appended-refused xs (check_link t a) (link_of t a) r e).buffer) appended-indicated

  pub replaced-indicated : (k : ℕ) → (replacing xs k t a).verdict ≡ Fine → Both xs (replacing xs k t a)
  replaced-indicated k f = let r = replaced-reads-back xs b t a bt c k f in (checked-indicated xs _ r.was, checked-indicated _ _ r.section.answer)

  pub replaced-keeps : (k : ℕ) → indicated (replacing xs k t a).buffer ≡ indicated xs
  unfolding replacing
  replaced-keeps k = keeps xs (replacing xs k t a) _ refl (λ r e. (replaced-refused xs k (check_link t a) (link_of t a) r e).buffer) (replaced-indicated k)
