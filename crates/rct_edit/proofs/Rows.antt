-- The rows of a call in their order, of any verdict on what is handed in: exactly when each is the one that answers, and what
-- holds then of all that stands before it.
-- Assumes nothing.
use Prim.Native.Nat.{ℕ, ◌≤◌, ◌<◌}
use mathlib.Core.Path.{◌≡◌, refl, sym, ap, ◌∙◌}
use mathlib.Core.Logic.{◌↔◌, ◌⊎◌, inl, inr, ⊎_elim}
use mathlib.Core.Bool.{true, false}
use mathlib.Core.List.{List, [], ◌∷◌, ◌++◌}
use lib.ListN.{length}
use Rattle.wire.specs.Refusals.{section_too_long, no_room}
use Rattle.wire.specs.Verdict.{bad, ◌▷◌, Fine, Verdict}
use Rattle.wire.proofs.Among.{listed, listed_more, Among, among-row, Never, among-never, never-then, never-past, never-behind, either-row, all_apart, listed-apart}
use Rattle.wire.proofs.Verdicts.{then-fine, fine-then, go_on, stop, then-assoc, row-says, passed-ltb, pass-ltb, broken-ltb, break-ltb}
use Rattle.link_draft.proofs.Listed.{link_checks}
use Rattle.frame.specs.Syntax.{limit}
use Rattle.rct.specs.Syntax.{Section, section_length, full_length}
use Rattle.rct.specs.Reading.{checked}
use Rattle.rct.proofs.Listed.{checked_reading, checked-listed}
use Rattle.rct_edit.specs.Edit.{length_row, room_row, room_rows, edit_verdict}
use Rattle.rct_edit.proofs.Outcomes.{room-passed}
use Rattle.rct_edit.proofs.Calls.{Room}
use Rattle.rct_edit.proofs.Listed.{room_numbers, room-listed}

-- ---- 28, 29 and no refusal, of a section s that is to be in a buffer of so many bytes; Q is that all rows before are passed

-- 28 (f, g): section_length is above the limit, whatever the room
pub record TooLong (Q : Type 0) (s : Section) (f g : ℕ) : Type 0 where
  pub before : Q
  pub long : limit < section_length s
  pub figures : (f ≡ section_length s) × (g ≡ limit)

-- 29 (f, g): it is within the limit, and the room is too small
pub record TooLarge (Q : Type 0) (s : Section) (room f g : ℕ) : Type 0 where
  pub before : Q
  pub fits : section_length s ≤ limit
  pub large : room < full_length s
  pub figures : (f ≡ full_length s) × (g ≡ room)

-- none: it is within both
pub record Accepted (Q : Type 0) (s : Section) (room : ℕ) : Type 0 where
  pub before : Q
  pub room_for : Room room s

module _ (u : Verdict) (Q : Type 0) (passed : u ≡ Fine → Q) (pass : Q → u ≡ Fine) (s : Section) (room : ℕ) where
  abbrev len : ℕ
  len = section_length s

  other-28 : Never section_too_long (room_row room len)
  other-28 = among-never (no_room ∷ []) _ section_too_long (among-row (no_room ∷ []) _ no_room _ _ refl) refl

  other-29 : Never no_room (length_row len)
  other-29 = among-never (section_too_long ∷ []) _ no_room (among-row (section_too_long ∷ []) _ section_too_long _ _ refl) refl

  pub long-iff : Never section_too_long u → (f g : ℕ) → (u ▷ room_rows room len ≡ bad section_too_long f g) ↔ TooLong Q s f g
  unfolding room_rows
  long-iff never f g = (to, from)
    where
      to : u ▷ room_rows room len ≡ bad section_too_long f g → TooLong Q s f g
      to e =
          let a = never-past section_too_long f g u _ never e in
          let b = never-behind section_too_long f g (length_row len) (room_row room len) other-28 a.1 in
          let says = (row-says _ _ _ _ _ f g b).1 in
          record { before = passed a.0; long = broken-ltb _ _ _ _ _ _ f g b; figures = (sym says.0, sym says.1) }

      from : TooLong Q s f g → u ▷ room_rows room len ≡ bad section_too_long f g
      from t = rw (t.figures.0, t.figures.1) (go_on u _ (pass t.before) ∙ stop (length_row len) _ _ _ _ (break-ltb _ _ _ _ _ t.long))

  pub large-iff : Never no_room u → (f g : ℕ) → (u ▷ room_rows room len ≡ bad no_room f g) ↔ TooLarge Q s room f g
  unfolding room_rows
  large-iff never f g = (to, from)
    where
      to : u ▷ room_rows room len ≡ bad no_room f g → TooLarge Q s room f g
      to e =
          let a = never-past no_room f g u _ never e in
          let b = never-past no_room f g (length_row len) (room_row room len) other-29 a.1 in
          let says = (row-says _ _ _ _ _ f g b.1).1 in
          record { before = passed a.0; fits = passed-ltb _ _ _ _ _ b.0; large = broken-ltb _ _ _ _ _ _ f g b.1; figures = (sym says.0, sym says.1) }

      from : TooLarge Q s room f g → u ▷ room_rows room len ≡ bad no_room f g
      from t =
          rw (t.figures.0, t.figures.1)
          (go_on u _ (pass t.before) ∙ go_on (length_row len) _ (pass-ltb _ _ _ _ _ t.fits) ∙ break-ltb _ _ _ _ _ t.large)

  pub fine-iff : (u ▷ room_rows room len ≡ Fine) ↔ Accepted Q s room
  unfolding room_rows
  fine-iff = (to, from)
    where
      to : u ▷ room_rows room len ≡ Fine → Accepted Q s room
      to e = let two = then-fine u _ e in record { before = passed two.0; room_for = room-passed room len two.1 }

      from : Accepted Q s room → u ▷ room_rows room len ≡ Fine
      from t = fine-then u _ (pass t.before) (fine-then (length_row len) _ (pass-ltb _ _ _ _ _ t.room_for.fit) (pass-ltb _ _ _ _ _ t.room_for.enough))

-- ---- the rows before, of an edit of the section in xs; P is that the call's own row is passed, v is the verdict on the link

-- 23, 22, 24, 25: the link's own refusal, where the section and the call's own row are fine
pub record LinkRefused (xs : List ℕ) (P : Type 0) (v : Verdict) (n f g : ℕ) : Type 0 where
  pub section : checked xs ≡ Fine
  pub own : P
  pub link : v ≡ bad n f g

-- what stands before 28
pub record Ready (xs : List ℕ) (P : Type 0) (v : Verdict) : Type 0 where
  pub section : checked xs ≡ Fine
  pub own : P
  pub link : v ≡ Fine

abbrev pub others : List ℕ
others = checked_reading ++ (link_checks ++ room_numbers)

-- the call's own row is passed exactly if P, and has a number m that no other row has
pub record OwnRow (row : Verdict) (P : Type 0) (m : ℕ) : Type 0 where
  pub passed : row ≡ Fine → P
  pub pass : P → row ≡ Fine
  pub numbers : Among (m ∷ []) row
  pub apart : all_apart others (m ∷ []) ≡ true

module _ (xs : List ℕ) (row v : Verdict) (s : Section) (P : Type 0) (m : ℕ) (o : OwnRow row P m) (links : Among link_checks v) where
  abbrev rows : Verdict
  rows = edit_verdict xs row v s

  abbrev room : Verdict
  room = room_rows (length xs) (section_length s)

  -- which rows never answer n
  own-never : (n : ℕ) → listed n others ≡ true → Never n row
  own-never n h = among-never (m ∷ []) row n o.numbers (listed-apart others (m ∷ []) n o.apart h)

  reading-never : (n : ℕ) → listed n checked_reading ≡ false → Never n (checked xs)
  reading-never n h = among-never checked_reading _ n (checked-listed xs) h

  link-never : (n : ℕ) → listed n link_checks ≡ false → Never n v
  link-never n h = among-never link_checks v n links h

  room-never : (n : ℕ) → listed n room_numbers ≡ false → Never n room
  room-never n h = among-never room_numbers _ n (room-listed _ _) h

  -- of a number that the room does not answer too
  pub reading-iff : (n f g : ℕ) → listed n checked_reading ≡ true → listed n room_numbers ≡ false → (rows ≡ bad n f g) ↔ (checked xs ≡ bad n f g)
  reading-iff n f g h a = (
    never-behind n f g (checked xs) _
        (never-then n row _ (own-never n (listed_more checked_reading others n refl h)) (never-then n v _ (link-never n (listed-apart checked_reading link_checks n refl h)) (room-never n a))),
    stop (checked xs) _ n f g,
  )

  pub own-iff : (f g : ℕ) → listed m checked_reading ≡ false → listed m link_checks ≡ false → listed m room_numbers ≡ false
      → (rows ≡ bad m f g) ↔ ((checked xs ≡ Fine) × (row ≡ bad m f g))
  own-iff f g a b c = (
    λ e. let two = never-past m f g (checked xs) _ (reading-never m a) e in (two.0, never-behind m f g row _ (never-then m v _ (link-never m b) (room-never m c)) two.1),
    λ t. go_on (checked xs) _ t.0 ∙ stop row _ m f g t.1,
  )

  pub link-iff : (n f g : ℕ) → listed n link_checks ≡ true → (rows ≡ bad n f g) ↔ LinkRefused xs P v n f g
  link-iff n f g h = (to, λ t. go_on (checked xs) _ t.section ∙ go_on row _ (o.pass t.own) ∙ stop v _ n f g t.link)
    where
      to : rows ≡ bad n f g → LinkRefused xs P v n f g
      to e =
          let a = never-past n f g (checked xs) _ (reading-never n (listed-apart link_checks checked_reading n refl h)) e in
          let b = never-past n f g row _ (own-never n (listed_more link_checks others n refl h)) a.1 in
          record { section = a.0; own = o.passed b.0; link = never-behind n f g v _ (room-never n (listed-apart link_checks room_numbers n refl h)) b.1 }

  -- 28, 29 and none
  before : Verdict
  before = checked xs ▷ row ▷ v

  split : rows ≡ before ▷ room
  unfolding before
  split = ap (λ w. checked xs ▷ w) (sym (then-assoc row v room)) ∙ sym (then-assoc (checked xs) (row ▷ v) room)

  ready : before ≡ Fine → Ready xs P v
  unfolding before
  ready e =
      let a = then-fine (checked xs) _ e in
      let b = then-fine row v a.1 in
      record { section = a.0; own = o.passed b.0; link = b.1 }

  ready-back : Ready xs P v → before ≡ Fine
  unfolding before
  ready-back t = fine-then (checked xs) _ t.section (fine-then row v (o.pass t.own) t.link)

  -- behind the checked reading no row before the room answers its numbers
  behind-never : (n : ℕ) → listed n room_numbers ≡ true → Never n (row ▷ v)
  behind-never n h = never-then n row v (own-never n (listed_more room_numbers others n refl h)) (link-never n (listed-apart room_numbers link_checks n refl h))

  -- of a section that passes
  new-long : checked xs ≡ Fine → (f g : ℕ) → (before ▷ room ≡ bad section_too_long f g) ↔ TooLong (Ready xs P v) s f g
  unfolding before
  new-long c = long-iff before (Ready xs P v) ready ready-back s (length xs) (λ f g e. behind-never section_too_long refl f g (sym (go_on (checked xs) (row ▷ v) c) ∙ e))

  -- the section that is there is above the limit, or the new one is
  pub edit-long : (f g : ℕ) → (rows ≡ bad section_too_long f g) ↔ ((checked xs ≡ bad section_too_long f g) ⊎ TooLong (Ready xs P v) s f g)
  edit-long f g = (to, from)
    where
      to : rows ≡ bad section_too_long f g → (checked xs ≡ bad section_too_long f g) ⊎ TooLong (Ready xs P v) s f g
      to e = ⊎_elim inl (λ w. inr ((new-long w.0 f g).0 (sym split ∙ e))) (either-row section_too_long f g (checked xs) _ e)

      from : (checked xs ≡ bad section_too_long f g) ⊎ TooLong (Ready xs P v) s f g → rows ≡ bad section_too_long f g
      from = ⊎_elim (stop (checked xs) _ section_too_long f g) (λ t. split ∙ (new-long t.before.section f g).1 t)

  pub edit-large : (f g : ℕ) → (rows ≡ bad no_room f g) ↔ TooLarge (Ready xs P v) s (length xs) f g
  unfolding before
  edit-large = rw split (large-iff before (Ready xs P v) ready ready-back s (length xs) (never-then no_room (checked xs) (row ▷ v) (reading-never no_room refl) (behind-never no_room refl)))

  pub edit-fine : (rows ≡ Fine) ↔ Accepted (Ready xs P v) s (length xs)
  edit-fine = rw split (fine-iff before (Ready xs P v) ready ready-back s (length xs))
