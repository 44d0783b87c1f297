-- Which numbers link by number and item by number can answer at all: 1 to 19 and 21.
-- Assumes nothing.
use Prim.Native.Nat.{ℕ}
use mathlib.Core.Path.{◌≡◌, refl}
use mathlib.Core.Bool.{true}
use mathlib.Core.List.{List, [], ◌∷◌}
use Rattle.wire.specs.Refusals.{no_such_number}
use Rattle.wire.specs.Verdict.{◌▷◌, Verdict, verdict_of}
use Rattle.wire.specs.declared.verdict.Refusal.{Refusal}
use Rattle.wire.proofs.Among.{listed, Among, among_then, among-more}
use Rattle.link.specs.Answers.{link_answer, item_row, item_in}
use Rattle.link.specs.declared.LinkInfo.{LinkInfo}
use Rattle.link.proofs.Listed as body
use Rattle.rct_bodies.specs.Bodies.{link_rows, body_place, body_of}
use Rattle.rct_bodies.proofs.Listed.{number_reading, rows-listed}
use Rattle.rct_links.specs.Links.{numbered_link, numbered_item}
use Rattle.std.specs.Prelude.{Err, Ok}

pub link-listed : (xs : List ℕ) (k : ℕ) → Among number_reading (verdict_of (numbered_link xs k))
unfolding numbered_link link_answer
link-listed xs k = by (link_rows xs k) _ (rows-listed xs k)
  where
    by : (v : Verdict) (i : LinkInfo) → Among number_reading v → Among number_reading (verdict_of (link_answer v i))
    by (Ok _) i a = a
    by (Err q) i a = a

pub item-listed : (xs : List ℕ) (k i : ℕ) (r : Refusal) → numbered_item xs k i ≡ Err r → listed r.number number_reading ≡ true
unfolding numbered_item
item-listed xs k i =
    body.item-answer-listed number_reading (link_rows xs k ▷ item_row (body_of xs k) i) (item_in (body_place xs k) (body_of xs k) i)
    (among_then number_reading _ _ (rows-listed xs k) (among-more (no_such_number ∷ []) number_reading _ refl (body.number-listed (body_of xs k) i)))
