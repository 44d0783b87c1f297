-- A part of a slice that is handed back: where it starts, and how many bytes it has.
-- Assumes nothing.
use Rattle.std.specs.Prelude.{ℕ, ◌+◌, List, leb, length}
use Rattle.wire.specs.Choice.{pick}
use Rattle.wire.specs.Lists.{part}
use Rattle.spans.specs.declared.Span.{Span}

abbrev pub span : ℕ → ℕ → Span
span p n = record { start = p; length = n }

-- its bytes
abbrev pub span_of : List ℕ → Span → List ℕ
span_of xs s = part xs s.start s.length

-- the span itself where the slice has all of it, and else the empty one at the slice's start
unfoldable pub span_in : List ℕ → Span → Span
span_in xs s = pick (leb (s.start + s.length) (length xs)) s (span 0 0)
