-- Link and item by number, from what is read of the body.
-- Assumes nothing.
use mathlib.Core.Path.{◌≡◌}
use Prim.Native.Nat.{ℕ}
use mathlib.Core.List.{List}
use Rattle.spans.specs.Spans.{span_of, span_in}
use Rattle.wire.specs.declared.verdict.Refusal.{Refusal}
use Rattle.wire.proofs.Verdicts.{go_on, refused-then}
use Rattle.link.specs.Reading.{body_verdict}
use Rattle.link.specs.Answers.{link_read, link_answer, item_row, item_rows, item_answer, item_read}
use Rattle.rct_bodies.specs.Bodies.{link_rows, body_of}
use Rattle.rct_bodies.specs.declared.NumberedBody.{NumberedBody}
use Rattle.rct_bodies.proofs.Bodies.{BodyKnown}
use Rattle.rct_links.specs.Links.{numbered_link, numbered_item}
use Rattle.std.specs.Prelude.{Err}

module _ (xs : List ℕ) (k : ℕ) (n : NumberedBody) (f : BodyKnown xs k n) where
  pub number-link : link_read n.body.start n.reserved (span_of xs (span_in xs n.body)) ≡ numbered_link xs k
  unfolding numbered_link link_read
  number-link = rw (f.bytes, f.start, f.reserved, f.rows, f.good)

  pub number-item : (i : ℕ) → item_read n.body.start (span_of xs (span_in xs n.body)) i ≡ numbered_item xs k i
  unfolding numbered_item item_read item_rows
  number-item i = rw (f.bytes, f.start, go_on (link_rows xs k) (item_row (body_of xs k) i) f.rows, go_on (body_verdict (body_of xs k)) (item_row (body_of xs k) i) f.good)

pub link-stopped : (xs : List ℕ) (k : ℕ) (r : Refusal) → link_rows xs k ≡ Err r → Err r ≡ numbered_link xs k
unfolding numbered_link link_answer
link-stopped xs k r v = rw v

pub item-stopped : (xs : List ℕ) (k i : ℕ) (r : Refusal) → link_rows xs k ≡ Err r → Err r ≡ numbered_item xs k i
unfolding numbered_item item_answer
item-stopped xs k i r v = rw (refused-then (link_rows xs k) _ r v)
