-- Which numbers a reading of the section can answer at all: the plain one 1, 40, 3 and 41 to 46, the checked one also 20, 28 and 38. By number 21 too.
-- Assumes nothing.
use Prim.Native.Nat.{ℕ}
use mathlib.Core.Path.{◌≡◌, refl}
use mathlib.Core.Logic.{◌↔◌}
use mathlib.Core.List.{List, [], ◌∷◌, ◌++◌}
use Rattle.length_field.specs.Lengths.{long_row}
use Rattle.wire.specs.Refusals.{too_short, wrong_length, wrong_crc, no_such_number, section_too_long, no_syntax_indicator, not_rnt, common_too_long, provider_cut, provider_too_long, provider_name_cut, provider_descriptors_cut, authority_cut}
use Rattle.wire.specs.Verdict.{bad}
use Rattle.wire.proofs.Among.{Among, among-row, among_then, among-more, Never, among-never}
use Rattle.length_field.proofs.Listed.{block_listed}
use Rattle.wire.proofs.RunLaws.{each-listed}
use Rattle.frame.specs.Reading.{payload_end}
use Rattle.frame.specs.declared.Demands.{Demands}
use Rattle.frame.proofs.Listed.{plain-among, demanded-among, checked-among}
use Rattle.frame.proofs.Indicator.{Unindicated, unindicated-iff}
use Rattle.frame.proofs.Limit.{AboveLimit, above-iff}
use Rattle.rnt.specs.Syntax.{rnt}
use Rattle.rnt.specs.Reading.{provider_places, authority_places, authority_verdict, provider_head, provider_verdict, common_row, payload_verdict, reading, plain, checked, provider_rows, authority_rows}
use Rattle.rnt.proofs.Names.{named-listed}

-- 42 to 45, of a provider without its authorities; 46, of an authority
abbrev pub head_reading : List ℕ
head_reading = provider_cut ∷ provider_too_long ∷ provider_name_cut ∷ provider_descriptors_cut ∷ []

abbrev pub authority_reading : List ℕ
authority_reading = authority_cut ∷ []

abbrev pub plain_reading : List ℕ
plain_reading = too_short ∷ not_rnt ∷ wrong_length ∷ common_too_long ∷ (head_reading ++ authority_reading)

-- with 28 and 38, which a reading may demand
abbrev pub demanded_reading : List ℕ
demanded_reading = plain_reading ++ section_too_long ∷ no_syntax_indicator ∷ []

-- and 20
abbrev pub checked_reading : List ℕ
checked_reading = demanded_reading ++ wrong_crc ∷ []

abbrev pub numbered_reading : List ℕ
numbered_reading = plain_reading ++ no_such_number ∷ []

-- ---- what stands behind the opening

pub head-listed : (xs : List ℕ) (e p : ℕ) → Among head_reading (provider_head xs e p)
unfolding provider_head
head-listed xs e p = among_then head_reading _ _ (block_listed head_reading provider_cut provider_too_long refl refl _ _ xs e p) (named-listed provider_name_cut provider_descriptors_cut xs _ _ head_reading refl refl)

pub authority-listed : (xs : List ℕ) (e p : ℕ) → Among authority_reading (authority_verdict xs e p)
authority-listed xs e p = named-listed authority_cut authority_cut xs e p authority_reading refl refl

provider-listed : (xs : List ℕ) (e p : ℕ) → Among plain_reading (provider_verdict xs e p)
unfolding provider_verdict
provider-listed xs e p =
    among_then plain_reading _ _ (among-more head_reading plain_reading _ refl (head-listed xs e p))
    (each-listed plain_reading _ (λ q. among-more authority_reading plain_reading _ refl (authority-listed xs _ q)) (authority_places xs p))

pub payload-listed : (xs : List ℕ) → Among plain_reading (payload_verdict xs)
unfolding payload_verdict common_row long_row
payload-listed xs = among_then plain_reading _ _ (among-row plain_reading _ common_too_long _ _ refl) (each-listed plain_reading _ (provider-listed xs (payload_end xs)) (provider_places xs))

-- ---- the readings

pub plain-listed : (xs : List ℕ) → Among plain_reading (plain xs)
plain-listed = plain-among rnt payload_verdict plain_reading payload-listed refl

-- neither 28 nor 38 is an answer of the plain reading
pub plain-never-28 : (xs : List ℕ) → Never section_too_long (plain xs)
plain-never-28 xs = among-never plain_reading (plain xs) section_too_long (plain-listed xs) refl

pub plain-never-38 : (xs : List ℕ) → Never no_syntax_indicator (plain xs)
plain-never-38 xs = among-never plain_reading (plain xs) no_syntax_indicator (plain-listed xs) refl

pub reading-listed : (d : Demands) (xs : List ℕ) → Among demanded_reading (reading d xs)
reading-listed = demanded-among rnt payload_verdict plain_reading payload-listed demanded_reading refl refl

pub checked-listed : (xs : List ℕ) → Among checked_reading (checked xs)
checked-listed = checked-among rnt payload_verdict plain_reading payload-listed checked_reading refl refl refl

-- 38 exactly if a section of the table is there and its indicator is not set, whatever else is wrong
pub checked-unindicated : (xs : List ℕ) (f g : ℕ) → (checked xs ≡ bad no_syntax_indicator f g) ↔ Unindicated rnt xs f g
checked-unindicated xs = unindicated-iff rnt payload_verdict xs refl (among-never plain_reading _ no_syntax_indicator (payload-listed xs) refl)

-- 28 exactly if a whole section of the table is there, its indicator is set and its section_length is above the limit, whatever else is wrong
pub checked-above : (xs : List ℕ) (f g : ℕ) → (checked xs ≡ bad section_too_long f g) ↔ AboveLimit rnt xs f g
checked-above xs = above-iff rnt payload_verdict xs refl (among-never plain_reading _ section_too_long (payload-listed xs) refl)

-- ---- by number

pub provider-rows-listed : (xs : List ℕ) (k : ℕ) → Among numbered_reading (provider_rows xs k)
unfolding provider_rows
provider-rows-listed xs k =
    among_then numbered_reading _ _ (among-more plain_reading numbered_reading _ refl (plain-listed xs)) (among-row numbered_reading _ no_such_number _ _ refl)

pub authority-rows-listed : (xs : List ℕ) (k j : ℕ) → Among numbered_reading (authority_rows xs k j)
unfolding authority_rows
authority-rows-listed xs k j = among_then numbered_reading _ _ (provider-rows-listed xs k) (among-row numbered_reading _ no_such_number _ _ refl)
