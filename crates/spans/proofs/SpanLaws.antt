-- What a slice has of a span: all of it, or nothing.
-- Assumes nothing.
use Prim.Native.Nat.{ℕ, ◌+◌, ◌≤◌, ◌<◌}
use mathlib.Core.Path.{◌≡◌}
use mathlib.Core.List.{List}
use lib.ListN.{length}
use borrow.Author.Tests.{le-leb, lt-leb}
use Rattle.spans.specs.Spans.{span, span_in}
use Rattle.spans.specs.declared.Span.{Span}

pub span-inside : (xs : List ℕ) (s : Span) → s.start + s.length ≤ length xs → span_in xs s ≡ s
unfolding span_in
span-inside xs s h = rw (le-leb _ _ h)

pub span-outside : (xs : List ℕ) (s : Span) → length xs < s.start + s.length → span_in xs s ≡ span 0 0
unfolding span_in
span-outside xs s h = rw (lt-leb _ _ h)
