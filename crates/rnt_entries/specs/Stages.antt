-- What only the code's own stage answers.
-- Assumes nothing.
use Rattle.std.specs.Prelude.{ℕ, List}
use Rattle.length_field.specs.Lengths.{beside_at}
use Rattle.rnt.specs.Reading.{name_end}
use Rattle.rnt.specs.Records.{name_span, descriptors_span}
use Rattle.rnt_entries.specs.declared.NamedPlaces.{NamedPlaces}

abbrev pub named_info : List ℕ → ℕ → NamedPlaces
named_info xs p = record { name = name_span xs p; beside = beside_at xs (name_end xs p); descriptors = descriptors_span xs p }
