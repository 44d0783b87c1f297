-- The order of making's refusals: request 102's 38, first of all, then 22, 25, 28, 29 (docs/REFUSALS.md), and of several
-- fields too wide the lowest place answers. Of each refusal exactly when it is answered.
-- Assumes nothing.
use Prim.Native.Nat.{ℕ, ◌+◌, ◌<◌}
use mathlib.Core.Path.{◌≡◌, refl, sym, ap, ◌∙◌}
use mathlib.Core.Logic.{◌↔◌}
use mathlib.Core.Bool.{Bool, true, false}
use mathlib.Core.List.{List, [], ◌∷◌}
use native.Mathlib.Omega.{arith}
use lib.ListN.{length}
use borrow.Author.Tests.{not-true}
use Rattle.wire.specs.Refusals.{too_wide, past_text, section_too_long, no_room, no_syntax_indicator}
use Rattle.wire.specs.Verdict.{bad, ◌▷◌, Fine, Verdict}
use Rattle.wire.proofs.Among.{listed, Among, Never, among-never, row-never, never-then, never-past, never-behind}
use Rattle.wire.proofs.Verdicts.{then-fine, fine-then, then-assoc, go_on, stop, row-says, row-broken, broken-ltb, break-ltb}
use Rattle.field.specs.Fields.{section_reserved, version_number, version_reserved, loop_length, loop_length_reserved, check_field}
use Rattle.link.specs.declared.Range.{Range}
use Rattle.link_draft.specs.Carried.{Each, Within}
use Rattle.link_draft.specs.Checks.{first_in, check_range}
use Rattle.link_draft.specs.Order.{Numbered, ◌≔◌, Held, Rising}
use Rattle.link_draft.proofs.Firsts.{row-refuses, only_row, only-first, only-listed, First, first-told, first-tells}
use Rattle.link_draft.proofs.Listed.{range_listed}
use Rattle.link_draft.proofs.Ranking.{check_numbered, numbered-passed, numbered-pass, lower-first}
use Rattle.link_draft.proofs.Rows.{range-passed, range-pass, each-passed, each-pass}
use Rattle.section_header.specs.Checks.{indicator_row, check_header}
use Rattle.section_header.proofs.HeaderLaws.{indicator-passed, indicator-pass, indicator-broken}
use Rattle.rct.specs.declared.RctHeader.{RctHeader}
use Rattle.rct.specs.Syntax.{Section, section_length}
use Rattle.rct_edit.specs.Edit.{bare, room_rows}
use Rattle.rct_edit.specs.Making.{check_loop, check_making, loop_of}
use Rattle.rct_edit.specs.Calls.{making}
use Rattle.rct_edit.proofs.Calls.{making-verdict}
use Rattle.rct_edit.proofs.Listed.{room_numbers, room-listed, making_checks, checks-listed}
use Rattle.rct_edit.proofs.Rows.{TooLong, TooLarge, Accepted, long-iff, large-iff, fine-iff}

-- the narrow fields of the header and of the loop, by rank: 20 to 24
abbrev pub made_fields : RctHeader → ℕ → Range → List Numbered
made_fields h beside d =
    section_reserved ≔ h.section.reserved_b1
    ∷ version_number ≔ h.section.version_number
    ∷ version_reserved ≔ h.section.reserved_b5
    ∷ loop_length ≔ d.length
    ∷ loop_length_reserved ≔ beside
    ∷ []

ranks-rise : (h : RctHeader) (beside : ℕ) (d : Range) → Rising 20 24 (made_fields h beside d)
unfolding Rising
ranks-rise h beside d = (omega arith, (omega arith, (omega arith, (omega arith, (omega arith, omega arith)))))

nothing-first : (v : Verdict) → Fine ▷ v ≡ v
nothing-first v = go_on Fine v refl

-- the checks are the row of the syntax indicator, the rows of the list, then the range's
checks-rows : (h : RctHeader) (beside have : ℕ) (d : Range) → check_making h beside have d ≡ indicator_row h.section ▷ (first_in check_numbered (made_fields h beside d) ▷ check_range have d)
unfolding check_making check_header check_loop first_in
checks-rows h beside have d = simp (then-assoc, nothing-first)

module _ (xs : List ℕ) (h : RctHeader) (beside : ℕ) (t : List ℕ) (d : Range) where
  abbrev fields : List Numbered
  fields = made_fields h beside d

  -- the section that is to be made
  abbrev new : Section
  new = bare h (loop_of beside t d)

  -- the rows of 22, of 25, and of 28 and 29
  abbrev widths : Verdict
  widths = first_in check_numbered fields

  abbrev range : Verdict
  range = check_range (length t) d

  abbrev room : Verdict
  room = room_rows (length xs) (section_length new)

  -- the header's indicator, and its row
  abbrev indicator : Bool
  indicator = h.section.section_syntax_indicator

  abbrev row : Verdict
  row = indicator_row h.section

  abbrev checks : Verdict
  checks = row ▷ (widths ▷ range)

  verdict-is : (making xs h beside t d).verdict ≡ checks ▷ room
  verdict-is = making-verdict xs h beside t d ∙ ap (λ v. v ▷ room) (checks-rows h beside (length t) d)

  widths-listed : Among (too_wide ∷ []) widths
  unfolding check_field
  widths-listed = only-listed (too_wide ∷ []) too_wide widths refl (only-first too_wide check_numbered (λ p. only_row _ too_wide _ _) fields)

  widths-never : (n : ℕ) → listed n (too_wide ∷ []) ≡ false → Never n widths
  widths-never n e = among-never (too_wide ∷ []) widths n widths-listed e

  range-never : (n : ℕ) → listed n (past_text ∷ []) ≡ false → Never n range
  range-never n e = among-never (past_text ∷ []) range n (range_listed (length t) d) e

  room-never : (n : ℕ) → listed n room_numbers ≡ false → Never n room
  room-never n e = among-never room_numbers room n (room-listed _ _) e

  -- 38 (f, g): the header's syntax indicator is not set, whatever else is wrong
  pub record MadeUnindicated (f g : ℕ) : Type 0 where
    pub clear : indicator ≡ false
    pub figures : (f ≡ 0) × (g ≡ 0)

  pub making-unindicated : (f g : ℕ) → ((making xs h beside t d).verdict ≡ bad no_syntax_indicator f g) ↔ MadeUnindicated f g
  making-unindicated f g = rw verdict-is (to, from)
    where
      to : checks ▷ room ≡ bad no_syntax_indicator f g → MadeUnindicated f g
      to e =
          let a = never-behind no_syntax_indicator f g checks room (room-never no_syntax_indicator refl) e in
          let b = never-behind no_syntax_indicator f g row (widths ▷ range) (never-then no_syntax_indicator widths range (widths-never no_syntax_indicator refl) (range-never no_syntax_indicator refl)) a in
          let says = (row-says _ _ _ _ _ f g b).1 in
          record { clear = not-true indicator (row-broken _ _ _ _ _ f g b); figures = (sym says.0, sym says.1) }

      from : MadeUnindicated f g → checks ▷ room ≡ bad no_syntax_indicator f g
      from w = rw (w.figures.0, w.figures.1) (stop checks room _ _ _ (stop row (widths ▷ range) _ _ _ (indicator-broken h.section w.clear)))

  -- 22 (p, n): it is set, and of the fields the first that does not hold its number has the rank p and the number n, whatever
  -- else is wrong; so each field of a lower rank holds its own
  pub record MadeTooWide (p n : ℕ) : Type 0 where
    pub indicated : indicator ≡ true
    pub it : Numbered
    pub first : First Held fields it
    pub rank : it.field.rank ≡ p
    pub number : it.number ≡ n
    pub lower : Each (λ x. x.field.rank < p → Held x) fields

  pub making-wide : (p n : ℕ) → ((making xs h beside t d).verdict ≡ bad too_wide p n) ↔ MadeTooWide p n
  unfolding check_field
  making-wide p n = rw verdict-is (to, from)
    where
      to : checks ▷ room ≡ bad too_wide p n → MadeTooWide p n
      to e =
          let a = never-past too_wide p n row (widths ▷ range) (row-never too_wide no_syntax_indicator _ 0 0 refl) (never-behind too_wide p n checks room (room-never too_wide refl) e) in
          let b = never-behind too_wide p n widths range (range-never too_wide refl) a.1 in
          let f = first-told check_numbered numbered-passed numbered-pass fields _ b in
          let says = (row-says _ too_wide _ _ too_wide p n f.told).1 in
          record { indicated = indicator-passed h.section a.0; it = f.it; first = f.first; rank = says.0; number = says.1; lower = rw says.0 at (lower-first 20 24 fields f.it (ranks-rise h beside d) f.first) }

      from : MadeTooWide p n → checks ▷ room ≡ bad too_wide p n
      from w =
          let own : check_numbered w.it ≡ bad too_wide p n = rw (← w.rank, ← w.number) (row-refuses _ too_wide _ _ (λ e. w.first.bad (numbered-passed w.it e))) in
          stop checks room _ _ _ (go_on row _ (indicator-pass h.section w.indicated) ∙ stop widths range _ _ _ (first-tells check_numbered numbered-passed numbered-pass fields w.it _ w.first own))

  -- 25 (f, g): it is set, each field holds its number, and the descriptors are a range past the text
  pub record MadePastText (f g : ℕ) : Type 0 where
    pub indicated : indicator ≡ true
    pub narrow : Each Held fields
    pub past : length t < d.start + d.length
    pub figures : (f ≡ d.start) × (g ≡ d.length)

  pub making-past : (f g : ℕ) → ((making xs h beside t d).verdict ≡ bad past_text f g) ↔ MadePastText f g
  unfolding check_range
  making-past f g = rw verdict-is (to, from)
    where
      to : checks ▷ room ≡ bad past_text f g → MadePastText f g
      to e =
          let a = never-past past_text f g row (widths ▷ range) (row-never past_text no_syntax_indicator _ 0 0 refl) (never-behind past_text f g checks room (room-never past_text refl) e) in
          let b = never-past past_text f g widths range (widths-never past_text refl) a.1 in
          let says = (row-says _ _ _ _ _ f g b.1).1 in
          record { indicated = indicator-passed h.section a.0; narrow = each-passed check_numbered numbered-passed fields b.0; past = broken-ltb _ _ _ _ _ _ f g b.1; figures = (sym says.0, sym says.1) }

      from : MadePastText f g → checks ▷ room ≡ bad past_text f g
      from w =
          rw (w.figures.0, w.figures.1)
          (stop checks room _ _ _ (go_on row _ (indicator-pass h.section w.indicated) ∙ go_on widths range (each-pass check_numbered numbered-pass fields w.narrow) ∙ break-ltb _ _ _ _ _ w.past))

  -- what stands before 28: it is set, each field holds its number, and the descriptors are a range of the text
  pub record MadeReady : Type 0 where
    pub indicated : indicator ≡ true
    pub narrow : Each Held fields
    pub within : Within t d

  ready : checks ≡ Fine → MadeReady
  ready e =
      let one = then-fine row (widths ▷ range) e in
      let two = then-fine widths range one.1 in
      record { indicated = indicator-passed h.section one.0; narrow = each-passed check_numbered numbered-passed fields two.0; within = range-passed t d two.1 }

  ready-back : MadeReady → checks ≡ Fine
  ready-back r = fine-then row _ (indicator-pass h.section r.indicated) (fine-then widths range (each-pass check_numbered numbered-pass fields r.narrow) (range-pass t d r.within))

  checks-never : (n : ℕ) → listed n making_checks ≡ false → Never n checks
  checks-never n e = among-never making_checks _ n (rw (← checks-rows h beside (length t) d) (checks-listed h beside (length t) d)) e

  -- 28 (f, g): that is fine, and section_length is above the limit, whatever the room
  pub making-long : (f g : ℕ) → ((making xs h beside t d).verdict ≡ bad section_too_long f g) ↔ TooLong MadeReady new f g
  making-long = rw verdict-is (long-iff checks MadeReady ready ready-back new (length xs) (checks-never section_too_long refl))

  -- 29 (f, g): it is within the limit too, and the room is smaller than the section
  pub making-large : (f g : ℕ) → ((making xs h beside t d).verdict ≡ bad no_room f g) ↔ TooLarge MadeReady new (length xs) f g
  making-large = rw verdict-is (large-iff checks MadeReady ready ready-back new (length xs) (checks-never no_room refl))

  -- none: all of it is fine
  pub making-fine : ((making xs h beside t d).verdict ≡ Fine) ↔ Accepted MadeReady new (length xs)
  making-fine = rw verdict-is (fine-iff checks MadeReady ready ready-back new (length xs))
