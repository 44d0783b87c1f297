-- What the private stages answer, case by case, over plain lists: the code's returns cite these.
-- Assumes nothing.
use mathlib.Core.Path.{◌≡◌, refl, sym, ap, ◌∙◌}
use Prim.Native.Nat.{ℕ, ◌+◌, ◌-◌}
use native.Mathlib.Omega.{arith}
use mathlib.Core.Bool.{Bool, true, false}
use mathlib.Core.List.{List}
use lib.ListN.{length, get_or, take, drop}
use borrow.Author.Tests.{le-ltb}
use Rattle.wire.specs.Choice.{pick}
use Rattle.wire.specs.Lists.{Bytes}
use Rattle.wire.specs.declared.verdict.Refusal.{Refusal}
use Rattle.wire.proofs.Lists.{rest_part}
use Rattle.wire.proofs.Verdicts.{then-fine}
use Rattle.locator.specs.Reading.{read_locator, got_locator}
use Rattle.locator.specs.declared.DvbBinaryLocator.{DvbBinaryLocator}
use Rattle.link.specs.Syntax.{head_length, uri_due, locator_due}
use Rattle.link.specs.Reading.{type_at, uri_start, uri_end_place, uri_verdict, locator_in, locator_rows, front_verdict, body_verdict}
use Rattle.link.specs.Records.{uri_info, locator_info}
use Rattle.link.proofs.Bounds.{body-known, front-known, rest-known, uri-far, count-far, tail-far}
use Rattle.link_walker.proofs.Places.{Found}
use Rattle.fields_reader.specs.Stages.{Laid, uri_to}
use Rattle.locator.specs.declared.reading.LocatorRead.{LocatorRead}
use Rattle.std.specs.Prelude.{Err, None, Result, Some}
use Rattle.wire.specs.Verdict.{Fine}

module _ (xs : List ℕ) where
  pub laid : (u p t : ℕ) → Bytes xs → Found xs u p t → Laid xs u p t
  laid u p t b f =
      let k = body-known xs f.fine in
      let front = front-known xs k.0 in
      record {
        uri = f.uri;
        count = f.count;
        tail = f.tail;
        headed = front.four;
        reaches = omega (arith, front.uri, f.uri);
        counts = omega (arith, front.within, f.count);
        ends = omega (arith, (rest-known xs k.1).1, f.tail);
        short = omega (arith, uri-far xs b, f.uri);
        first = omega (arith, count-far xs b, f.count);
        near = omega (arith, tail-far xs b, f.tail);
      }

  pub uri-info : (base : ℕ) → uri_to base (uri_end_place xs) ≡ uri_info base xs
  unfolding uri_to
  uri-info base = go (uri_due (type_at xs))
    where
      n : ℕ
      n = get_or xs head_length 0

      back : uri_start + n - uri_start ≡ n
      back = omega arith

      go : (b : Bool) → uri_to base (pick b (uri_start + n) head_length) ≡ pick b (Some (record { start = base + uri_start; length = n })) None
      go true = rw (le-ltb (uri_start + n) uri_start (omega arith), back)
      go false = refl

  -- the locator of a link whose type has none, and of one whose type has one, read from the part behind the URI
  pub held-not-due : locator_due (type_at xs) ≡ false → None ≡ locator_info xs
  held-not-due d = rw d

  module _ (p : ℕ) (u : p ≡ uri_end_place xs) (d : locator_due (type_at xs) ≡ true) (a : Result LocatorRead Refusal) (q : a ≡ read_locator (take (length xs - p) (drop p xs))) where
    said : a ≡ locator_in xs
    said = q ∙ ap read_locator (rest_part xs p) ∙ ap (λ e. read_locator (drop e xs)) u

    pub held-got : (l : DvbBinaryLocator) (n : ℕ) → a ≡ got_locator l n → Some l ≡ locator_info xs
    held-got l n z = rw (d, sym said ∙ z)

    -- never where the body is accepted: its rows have read the same locator
    pub held-refused : (r : Refusal) → a ≡ Err r → body_verdict xs ≡ Fine → ⊥
    unfolding front_verdict locator_rows
    held-refused r z v =
        let front = then-fine _ _ (body-known xs v).0 in
        let rows = (then-fine (locator_rows xs) _ (then-fine (uri_verdict xs) _ front.1).1).0 in
        let f : Err r ≡ Fine = (then-fine _ _ (rw (d, sym said ∙ z) at rows)).1 in
        let y : ◌≡◌ {A = ℕ} 0 1 = cc in
        absurd (omega arith)
