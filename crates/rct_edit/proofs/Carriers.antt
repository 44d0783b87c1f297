-- What a function knows of a header that it is handed, as the types have it, in the words of specs/Making. At a need of a
-- function with a record `header`, the premise is in `c.good`.
-- Assumes nothing.
use mathlib.Core.List.{List}
use mir.Val.{Val}
use denote.Laws.{Is}
use denote.Struct.Declared as struct
use Prim.Native.Nat.{◌<◌}
use Rattle.section_header.specs.declared.SectionHeader.{SectionHeader}
use Rattle.section_header.specs.contracts.SectionHeader as section-type
use Rattle.rct.specs.declared.RctHeader.{RctHeader}
use Rattle.rct.specs.contracts.RctHeader as header-type
use Rattle.rct_edit.specs.Making.{HeaderCarried}

section : (h : SectionHeader) (vs : List Val) → Is (struct.row section-type.the_type) h vs → (h.table_id_extension < 65536) × ((h.section_number < 256) × (h.last_section_number < 256))
section h vs g =
    let f = g.1.1.1.1.1 in
    let n = f.1.1.1.1 in
    (f.0.1, (n.0.1, n.1.0.1))

pub header-carried : (h : RctHeader) (vs : List Val) → Is (struct.row header-type.the_type) h vs → HeaderCarried h
header-carried h vs g =
    let f = g.1.1 in
    let s = section h.section _ f.0 in
    record { extension = s.0; number = s.1.0; last = s.1.1; year = f.1.0.1 }
