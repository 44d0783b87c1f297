-- The parts that are handed back of an accepted section are those of link k: what the syntax's record of it has there.
-- Assumes nothing.
use mathlib.Core.Path.{◌≡◌, refl, sym, ap}
use Prim.Native.Nat.{ℕ, ◌<◌}
use mathlib.Core.Bool.{Bool, true, false}
use mathlib.Core.List.{List}
use mathlib.Core.Option.{none, some}
use lib.ListN.{get_or}
use Rattle.wire.specs.Choice.{pick}
use Rattle.wire.specs.Lists.{Bytes, part}
use Rattle.spans.specs.Spans.{span, span_of}
use Rattle.wire.proofs.Verdicts.{fine-then}
use Rattle.link.specs.Syntax.{head_length, Item, Link, uri_due}
use Rattle.link.specs.Reading.{type_at, uri_start, items_place, item_count, body_verdict, link_at}
use Rattle.link.specs.Answers.{item_row, item_rows}
use Rattle.link.specs.Parts.{uri_span, text_span, descriptor_span}
use Rattle.rct.specs.Reading.{count_at, section_at, plain}
use Rattle.rct_bodies.specs.Bodies.{body_of}
use Rattle.rct_bodies.specs.declared.NumberedBody.{NumberedBody}
use Rattle.rct_bodies.proofs.Bodies.{rows-fine, body-found, LinkKnown, link-known}
use Rattle.rct_links.proofs.Images.{items_at_lem, in-range}
use Rattle.rct_parts.specs.Parts.{body_span_of, body_part}
use Rattle.std.specs.Prelude.{Result}
use Rattle.wire.specs.Verdict.{Fine}
use Rattle.wire.specs.declared.verdict.Refusal.{Refusal}

module _ (xs : List ℕ) (b : Bytes xs) (k : ℕ) (v : plain xs ≡ Fine) (h : k < count_at xs) where
  known : LinkKnown xs k
  known = link-known xs k b (rows-fine xs k v h)

  pub body-handed : body_part xs k ≡ body_of xs k
  unfolding body_span_of
  body-handed = ap (λ (n : Result NumberedBody Refusal). span_of xs (body_span_of n)) (sym (body-found xs k _ _ _ (rows-fine xs k v h) refl refl refl))

  -- a URI exactly where the link's type has one
  pub uri-handed : (d : Link) → (get_or (section_at xs).links k d).uri ≡ pick (uri_due (get_or (section_at xs).links k d).link_type) (some (span_of (body_part xs k) (uri_span (body_part xs k)))) none
  unfolding uri_span link_at
  uri-handed d = rw (body-handed, known.link d, known.good) (go (uri_due (type_at body)))
    where
      body : List ℕ
      body = body_of xs k

      n : ℕ
      n = get_or body head_length 0

      go : (t : Bool) → pick t (some (part body uri_start n)) none ≡ pick t (some (span_of body (pick t (span uri_start n) (span 0 0)))) none
      go true = refl
      go false = refl

  pub descriptors-handed : (d : Link) → span_of (body_part xs k) (descriptor_span (body_part xs k)) ≡ (get_or (section_at xs).links k d).descriptors
  unfolding descriptor_span link_at
  descriptors-handed d = rw (body-handed, known.link d, known.good)

  pub text-handed : (i : ℕ) (d : Link) (e : Item) → i < item_count (body_of xs k) → span_of (body_part xs k) (text_span (body_part xs k) i) ≡ (get_or (get_or (section_at xs).links k d).items i e).text
  unfolding text_span item_rows link_at
  text-handed i d e l =
      let row : item_row (body_of xs k) i ≡ Fine = in-range xs b k v h i l in
      rw (body-handed, known.link d, fine-then (body_verdict (body_of xs k)) _ known.good row)
      (sym (ap (λ (m : Item). m.text) (items_at_lem (item_count (body_of xs k)) i (body_of xs k) (items_place (body_of xs k)) e l)))
