-- The parts that are handed back, as spans of the section: the body of a link by number, parts of such a body, which link's Parts define, and the descriptors of the section's loop.
-- Assumes nothing.
use Rattle.std.specs.Prelude.{ℕ, ◌+◌, List, Err, Ok, Result}
use Rattle.spans.specs.Spans.{span, span_of}
use Rattle.spans.specs.declared.Span.{Span}
use Rattle.rct.specs.Reading.{plain}
use Rattle.rct_reader.specs.Sections.{section_read}
use Rattle.rct_reader.specs.declared.RctSection.{RctSection}
use Rattle.rct_bodies.specs.Bodies.{numbered_body}
use Rattle.rct_bodies.specs.declared.NumberedBody.{NumberedBody}
use Rattle.wire.specs.declared.verdict.Refusal.{Refusal}

-- where a body that was found stands, and nothing at the section's start for a refusal
unfoldable pub body_span_of : Result NumberedBody Refusal → Span
body_span_of (Ok n) = n.body
body_span_of (Err r) = span 0 0

-- so where the loop's descriptors stand
unfoldable pub loop_span_of : Result RctSection Refusal → Span
loop_span_of (Ok k) = span k.descriptors.start k.descriptors.length
loop_span_of (Err r) = span 0 0

-- the body of link k, and nothing where link by number is refused
abbrev pub body_span : List ℕ → ℕ → Span
body_span xs k = body_span_of (numbered_body xs k)

abbrev pub body_part : List ℕ → ℕ → List ℕ
body_part xs k = span_of xs (body_span xs k)

-- the loop's descriptors, and nothing where the plain reading refuses
abbrev pub loop_span : List ℕ → Span
loop_span xs =
    loop_span_of (section_read (plain xs) xs)
