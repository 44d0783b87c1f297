-- What the checks before a section is made say of what is handed in.
-- Assumes nothing.
use Prim.Native.Nat.{ℕ}
use mathlib.Core.Path.{◌≡◌}
use mathlib.Core.List.{List}
use lib.ListN.{length}
use Rattle.field.specs.Fields.{loop_length, loop_length_reserved}
use Rattle.wire.proofs.Verdicts.{then-fine}
use Rattle.link.specs.declared.Range.{Range}
use Rattle.link_draft.proofs.Rows.{range-passed}
use Rattle.field.proofs.Checks.{field-passed}
use Rattle.rct.specs.declared.RctHeader.{RctHeader}
use Rattle.rct_edit.specs.Making.{check_loop, check_making, LoopNarrow}
use Rattle.section_header.specs.Checks.{check_header}
use Rattle.section_header.proofs.HeaderLaws.{Written, header-passed}
use Rattle.wire.specs.Verdict.{Fine}

module _ (h : RctHeader) (beside : ℕ) (t : List ℕ) (d : Range) (e : check_making h beside (length t) d ≡ Fine) where
  pub header-written : Written h.section
  unfolding check_making
  header-written = header-passed h.section (then-fine (check_header h.section) _ e).0

  pub loop-narrow : LoopNarrow beside t d
  unfolding check_making check_loop
  loop-narrow =
      let a = then-fine (check_header h.section) _ e in
      let b = then-fine (check_loop beside d) _ a.1 in
      let c = then-fine _ _ b.0 in
      record { short = field-passed loop_length d.length c.0; narrow = field-passed loop_length_reserved beside c.1; within = range-passed t d b.1 }
