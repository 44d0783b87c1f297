-- What an opened section is: the rows passed, and the answer of each row that is broken.
-- Assumes nothing.
use mathlib.Core.Path.{◌≡◌, ap, ◌∙◌}
use mathlib.Core.Logic.{◌↔◌}
use Prim.Native.Nat.{ℕ, ◌+◌, ◌≤◌, ◌<◌}
use native.Mathlib.Omega.{arith}
use mathlib.Core.Bool.{true, false, false≢true, not}
use mathlib.Core.List.{List}
use lib.Dec.{ltb, eqb}
use borrow.Author.Tests.{lt-ltb, le-ltb, eq-eqb, ne_eqb}
use lib.ListN.{length, get_or}
use Rattle.wire.specs.Lists.{Bytes}
use Rattle.length_field.specs.Lengths.{longest}
use Rattle.wire.specs.Verdict.{bad, refuse, reached, ◌▷◌, Fine}
use Rattle.length_field.proofs.Blocks.{length-short}
use Rattle.wire.proofs.Verdicts.{then-fine, fine-then, fine-row, passed-ltb, passed-eqb, pass-ltb, pass-eqb, due-passed, due-pass, reached-at}
use Rattle.wire.specs.Refusals.{too_short, wrong_length, section_too_long, no_syntax_indicator}
use Rattle.section_header.specs.Reading.{syntax_indicator, header_at}
use Rattle.frame.specs.Syntax.{uncounted, least, Indicated}
use Rattle.frame.specs.Reading.{declared, total_of, plain_demands, unindicated, indicator_row, opened}
use Rattle.section_header.specs.declared.SectionHeader.{SectionHeader}
use Rattle.frame.specs.declared.Table.{Table}
use Rattle.frame.specs.declared.Demands.{Demands}
use Rattle.std.specs.Prelude.{Ok}

-- the bytes begin with a whole section of the table, with the indicator that the reading demands and a section_length that it takes
pub record Opened (t : Table) (d : Demands) (xs : List ℕ) : Type 0 where
  pub id_is : get_or xs 0 0 ≡ t.id
  pub indicated : Indicated d (header_at xs)
  pub large : least t ≤ total_of xs
  pub within : total_of xs ≤ length xs
  pub limited : declared xs ≤ d.most

-- where byte 1 has what is demanded, so has the header
pub met-indicated : (d : Demands) (xs : List ℕ) → unindicated d (get_or xs 1 0) ≡ false → Indicated d (header_at xs)
met-indicated d xs e = due-passed d.indicator (syntax_indicator (get_or xs 1 0)) 0 0 0 (fine-row _ 0 0 0 e)

module _ (t : Table) (d : Demands) (xs : List ℕ) where
  pub opened-fine : opened t d xs ≡ Fine → Opened t d xs
  unfolding opened
  opened-fine v =
      let a = then-fine (refuse (ltb (length xs) (least t)) too_short (least t) (length xs)) _ v in
      let b = then-fine (refuse (not (eqb (get_or xs 0 0) t.id)) t.other t.id (get_or xs 0 0)) _ a.1 in
      let i = then-fine (indicator_row d xs) _ b.1 in
      let c = then-fine (refuse (ltb (total_of xs) (least t)) wrong_length (declared xs) (length xs)) _ i.1 in
      let e = then-fine (refuse (ltb (length xs) (total_of xs)) wrong_length (declared xs) (length xs)) _ c.1 in
      record {
        id_is = passed-eqb _ _ _ _ _ b.0;
        indicated = due-passed d.indicator (syntax_indicator (get_or xs 1 0)) _ _ _ i.0;
        large = passed-ltb _ _ _ _ _ c.0;
        within = passed-ltb _ _ _ _ _ e.0;
        limited = passed-ltb _ _ _ _ _ e.1;
      }

  pub fine-opened : Opened t d xs → opened t d xs ≡ Fine
  unfolding opened
  fine-opened o =
      fine-then _ _ (pass-ltb (length xs) (least t) _ _ _ (omega arith))
      (fine-then _ _ (pass-eqb _ _ _ _ _ o.id_is)
      (fine-then _ _ (due-pass d.indicator (syntax_indicator (get_or xs 1 0)) _ _ _ o.indicated)
      (fine-then _ _ (pass-ltb _ _ _ _ _ o.large)
      (fine-then _ _ (pass-ltb _ _ _ _ _ o.within) (pass-ltb _ _ _ _ _ o.limited)))))

  pub opened-iff : (opened t d xs ≡ Fine) ↔ Opened t d xs
  opened-iff = (opened-fine, fine-opened)

  -- ---- the answer at each row, the rows before it being passed

  pub opened-short : length xs < least t → opened t d xs ≡ bad too_short (least t) (length xs)
  unfolding opened refuse ◌▷◌
  opened-short h = rw (lt-ltb (length xs) (least t) h)

  module _ (l : least t ≤ length xs) where
    pub opened-other : (get_or xs 0 0 ≡ t.id → ⊥) → opened t d xs ≡ bad t.other t.id (get_or xs 0 0)
    unfolding opened refuse ◌▷◌
    opened-other n = rw (le-ltb (length xs) (least t) l, ne_eqb (get_or xs 0 0) t.id n)

    module _ (i : get_or xs 0 0 ≡ t.id) where
      -- 38, of any length that is declared
      pub opened-unindicated : unindicated d (get_or xs 1 0) ≡ true → opened t d xs ≡ bad no_syntax_indicator (get_or xs 1 0) 0
      unfolding opened refuse ◌▷◌
      opened-unindicated u = rw (le-ltb (length xs) (least t) l, eq-eqb (get_or xs 0 0) t.id i, u)

      module _ (u : unindicated d (get_or xs 1 0) ≡ false) where
        pub opened-small : total_of xs < least t → opened t d xs ≡ bad wrong_length (declared xs) (length xs)
        unfolding opened refuse ◌▷◌
        opened-small h = rw (le-ltb (length xs) (least t) l, eq-eqb (get_or xs 0 0) t.id i, u, lt-ltb (total_of xs) (least t) h)

        module _ (b : least t ≤ total_of xs) where
          pub opened-cut : length xs < total_of xs → opened t d xs ≡ bad wrong_length (declared xs) (length xs)
          unfolding opened refuse ◌▷◌
          opened-cut h = rw (le-ltb (length xs) (least t) l, eq-eqb (get_or xs 0 0) t.id i, u, le-ltb (total_of xs) (least t) b, lt-ltb (length xs) (total_of xs) h)

          pub opened-long : total_of xs ≤ length xs → d.most < declared xs → opened t d xs ≡ bad section_too_long (declared xs) d.most
          unfolding opened refuse ◌▷◌
          opened-long w h =
              rw (
                le-ltb (length xs) (least t) l,
                eq-eqb (get_or xs 0 0) t.id i,
                u,
                le-ltb (total_of xs) (least t) b,
                le-ltb (length xs) (total_of xs) w,
                lt-ltb d.most (declared xs) h,
              )

-- from what was written: a header and a section_length that meet the demands, read at their places
pub opened-back : (t : Table) (d : Demands) (xs : List ℕ) (h : SectionHeader) (len : ℕ) → get_or xs 0 0 ≡ t.id → header_at xs ≡ h → declared xs ≡ len
    → Indicated d h → len ≤ d.most → least t ≤ uncounted + len → uncounted + len ≤ length xs → Opened t d xs
opened-back t d xs h len i e l s m a b =
    record { id_is = i; indicated = λ u. ap (λ (r : SectionHeader). r.section_syntax_indicator) e ∙ s u; large = rw l a; within = rw l b; limited = rw l m }

-- what the place that an opening reached tells: the code's walks start from there
pub record OpenedAt (t : Table) (d : Demands) (xs : List ℕ) (n : ℕ) : Type 0 where
  pub fine : opened t d xs ≡ Fine
  pub total : total_of xs ≡ n
  pub large : least t ≤ n
  pub within : n ≤ length xs
  pub short : n ≤ uncounted + longest

pub opened-at : (t : Table) (d : Demands) (xs : List ℕ) (n : ℕ) → Bytes xs → reached (opened t d xs) (total_of xs) ≡ Ok n → OpenedAt t d xs n
opened-at t d xs n b e =
    let g = reached-at _ _ _ e in
    let o = opened-fine t d xs g.0 in
    let l = length-short xs 1 b in
    record { fine = g.0; total = g.1; large = omega (arith, g.1, o.large); within = omega (arith, g.1, o.within); short = omega (arith, g.1, l) }

-- the plain reading breaks neither the row of the indicator, which it does not demand, nor the last one
pub plain-indicated : (h : SectionHeader) → Indicated plain_demands h
plain-indicated h e = absurd (false≢true e)

pub plain-limit : (xs : List ℕ) → Bytes xs → refuse (ltb plain_demands.most (declared xs)) section_too_long (declared xs) plain_demands.most ≡ Fine
plain-limit xs b = pass-ltb longest (declared xs) _ _ _ (length-short xs 1 b)
