-- The readings of a table, whatever its own rows: what stands in front of them and what follows; a reading by demands and the
-- checked one against the plain one.
-- Assumes nothing.
use mathlib.Core.Path.{◌≡◌, refl, sym, ap, ◌∙◌}
use mathlib.Core.Logic.{◌↔◌}
use Prim.Native.Nat.{ℕ, ◌≤◌}
use native.Mathlib.Omega.{arith}
use mathlib.Core.Bool.{true, false}
use mathlib.Core.List.{List, [], ◌∷◌}
use Rattle.length_field.specs.Lengths.{longest}
use Rattle.wire.specs.Refusals.{wrong_crc}
use Rattle.wire.specs.Verdict.{bad, Fine, Verdict}
use Rattle.wire.specs.declared.verdict.Refusal.{Refusal}
use Rattle.wire.proofs.Among.{listed, Never, row-never, never-behind}
use Rattle.wire.proofs.Verdicts.{then-fine, fine-then, go_on, stop, refused-then}
use Rattle.section_header.specs.Reading.{header_at}
use Rattle.frame.specs.Syntax.{crc_length, limit, least, Indicated}
use Rattle.frame.specs.Reading.{declared, payload_end, plain_demands, checked_demands, opened, stored, computed, crc_row, reading_by, checked_by}
use Rattle.frame.specs.Ending.{crc_verdict}
use Rattle.frame.specs.declared.Table.{Table}
use Rattle.frame.specs.declared.Demands.{Demands}
use Rattle.frame.proofs.Opening.{Opened, opened-fine, fine-opened, plain-indicated}
use Rattle.frame.proofs.Endings.{crc-room, crc-passed, crc-pass}
use Rattle.std.specs.Prelude.{Err}

module _ (t : Table) (rows : List ℕ → Verdict) where
  module _ (d : Demands) (xs : List ℕ) where
    pub reading-closed : (r : Refusal) → opened t d xs ≡ Err r → reading_by t rows d xs ≡ Err r
    unfolding reading_by
    reading-closed r v = refused-then _ _ r v

    pub reading-rows : opened t d xs ≡ Fine → rows xs ≡ reading_by t rows d xs
    unfolding reading_by
    reading-rows v = sym (go_on _ _ v)

    pub reading-opened : reading_by t rows d xs ≡ Fine → Opened t d xs
    unfolding reading_by
    reading-opened v = opened-fine t d xs (then-fine (opened t d xs) _ v).0

    pub reading-passed : reading_by t rows d xs ≡ Fine → rows xs ≡ Fine
    unfolding reading_by
    reading-passed v = (then-fine (opened t d xs) _ v).1

    pub reading-pass : Opened t d xs → rows xs ≡ Fine → reading_by t rows d xs ≡ Fine
    unfolding reading_by
    reading-pass o v = fine-then _ _ (fine-opened t d xs o) v

  module _ (xs : List ℕ) where
    pub checked-stop : (r : Refusal) → reading_by t rows checked_demands xs ≡ Err r → checked_by t rows xs ≡ Err r
    unfolding checked_by
    checked-stop r v = refused-then _ _ r v

    pub checked-crc : reading_by t rows checked_demands xs ≡ Fine → checked_by t rows xs ≡ crc_row xs (payload_end xs)
    unfolding checked_by
    checked-crc v = go_on _ _ v

    pub checked-reading : checked_by t rows xs ≡ Fine → reading_by t rows checked_demands xs ≡ Fine
    unfolding checked_by
    checked-reading v = (then-fine _ _ v).0

    pub checked-right : checked_by t rows xs ≡ Fine → stored xs ≡ computed xs
    unfolding checked_by
    checked-right v = crc-passed xs (payload_end xs) (then-fine (reading_by t rows checked_demands xs) _ v).1

    pub checked-pass : reading_by t rows checked_demands xs ≡ Fine → stored xs ≡ computed xs → checked_by t rows xs ≡ Fine
    unfolding checked_by
    checked-pass v r = fine-then _ _ v (crc-pass xs (payload_end xs) r)

    -- behind a reading that passed it is what the check of the CRC at the payload's end says
    pub checked-said : (e : ℕ) (v : Verdict) → crc_length ≤ least t → reading_by t rows checked_demands xs ≡ Fine → e ≡ payload_end xs → v ≡ crc_verdict xs e → checked_by t rows xs ≡ v
    checked-said e v four r is said =
        let o = reading-opened checked_demands xs r in
        checked-crc r ∙ sym (said ∙ ap (λ k. crc_verdict xs k) is ∙ crc-room xs (payload_end xs) (omega (arith, four, o.large, o.within)))

    -- a number that neither the table's own rows nor the CRC's has: exactly if the opening answers it, whatever else is wrong
    pub opening-answers : (n f g : ℕ) → Never n (rows xs) → listed n (wrong_crc ∷ []) ≡ false → (checked_by t rows xs ≡ bad n f g) ↔ (opened t checked_demands xs ≡ bad n f g)
    unfolding checked_by reading_by crc_row
    opening-answers n f g own crc =
        (λ e. never-behind n f g (opened t checked_demands xs) _ own (never-behind n f g _ _ (row-never n wrong_crc _ _ _ crc) e), λ e. stop _ _ n f g (stop _ _ n f g e))

  -- ---- against the plain reading

  -- plainly fine, the indicator as d demands it, and no longer than it takes
  pub record Within (d : Demands) (xs : List ℕ) : Type 0 where
    pub plainly : reading_by t rows plain_demands xs ≡ Fine
    pub indicated : Indicated d (header_at xs)
    pub limited : declared xs ≤ d.most

  -- a reading by demands is the plain one, of sections that meet them
  pub within-iff : (d : Demands) (xs : List ℕ) → d.most ≤ longest → (reading_by t rows d xs ≡ Fine) ↔ Within d xs
  within-iff d xs m = (to, from)
    where
      to : reading_by t rows d xs ≡ Fine → Within d xs
      to v =
          let o = reading-opened d xs v in
          record {
            plainly = reading-pass plain_demands xs (record { id_is = o.id_is; indicated = plain-indicated (header_at xs); large = o.large; within = o.within; limited = omega (arith, o.limited) }) (reading-passed d xs v);
            indicated = o.indicated;
            limited = o.limited;
          }

      from : Within d xs → reading_by t rows d xs ≡ Fine
      from w =
          let o = reading-opened plain_demands xs w.plainly in
          reading-pass d xs (record { id_is = o.id_is; indicated = w.indicated; large = o.large; within = o.within; limited = w.limited }) (reading-passed plain_demands xs w.plainly)

  pub record Checks (xs : List ℕ) : Type 0 where
    pub plainly : reading_by t rows plain_demands xs ≡ Fine
    pub indicated : (header_at xs).section_syntax_indicator ≡ true
    pub limited : declared xs ≤ limit
    pub right : stored xs ≡ computed xs

  -- the checked reading is fine exactly if the plain one is, section_syntax_indicator is set, the length is within the limit and the
  -- stored CRC is the computed one
  pub checked-iff : (xs : List ℕ) → (checked_by t rows xs ≡ Fine) ↔ Checks xs
  checked-iff xs = (to, from)
    where
      to : checked_by t rows xs ≡ Fine → Checks xs
      to v =
          let w = (within-iff checked_demands xs (omega arith)).0 (checked-reading xs v) in
          record { plainly = w.plainly; indicated = w.indicated refl; limited = w.limited; right = checked-right xs v }

      from : Checks xs → checked_by t rows xs ≡ Fine
      from k =
          let w = (within-iff checked_demands xs (omega arith)).1 in
          checked-pass xs (w (record { plainly = k.plainly; indicated = λ e. k.indicated; limited = k.limited })) k.right
