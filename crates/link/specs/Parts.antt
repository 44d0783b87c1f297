-- The parts of a body that are handed back, as spans of it: none where the body is refused, or has no such part.
-- Assumes nothing.
use Rattle.std.specs.Prelude.{ℕ, ◌+◌, List, get_or}
use Rattle.wire.specs.Choice.{pick}
use Rattle.length_field.specs.Lengths.{length_at}
use Rattle.wire.specs.Verdict.{is_fine}
use Rattle.link.specs.Syntax.{head_length, item_head, uri_due}
use Rattle.link.specs.Reading.{type_at, uri_start, items_place, item_place, text_size, tail_place, body_verdict}
use Rattle.link.specs.Answers.{item_rows}
use Rattle.spans.specs.Spans.{span}
use Rattle.spans.specs.declared.Span.{Span}

unfoldable pub uri_span : List ℕ → Span
uri_span xs = pick (is_fine (body_verdict xs)) (pick (uri_due (type_at xs)) (span uri_start (get_or xs head_length 0)) (span 0 0)) (span 0 0)

abbrev pub text_at : List ℕ → ℕ → Span
text_at xs p = span (p + item_head) (text_size xs p)

unfoldable pub text_span : List ℕ → ℕ → Span
text_span xs i = pick (is_fine (item_rows xs i)) (text_at xs (item_place i xs (items_place xs))) (span 0 0)

unfoldable pub descriptor_span : List ℕ → Span
descriptor_span xs = pick (is_fine (body_verdict xs)) (span (tail_place xs + 2) (length_at xs (tail_place xs))) (span 0 0)
