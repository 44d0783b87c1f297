-- What the numbers of a header stand for is the header itself, for every header.
-- Assumes nothing.
use mathlib.Core.Path.{◌≡◌, refl}
use Rattle.section_header.specs.declared.SectionHeader.{SectionHeader}
use Rattle.rct.specs.declared.RctHeader.{RctHeader}
use Rattle.flat_locator.proofs.Back.{flag-back}
use Rattle.flat_sections.specs.Sections.{header_flat, header_of, rct_header_flat, rct_header_of}

pub header-back : (h : SectionHeader) → header_of (header_flat h) ≡ h
unfolding header_flat header_of
header-back h = rw (flag-back h.section_syntax_indicator, flag-back h.private_indicator, flag-back h.current_next_indicator) refl

pub rct-header-back : (h : RctHeader) → rct_header_of (rct_header_flat h) ≡ h
rct-header-back h = rw (header-back h.section) refl
