-- Which numbers the checks of a link's record can answer at all: 22 to 25.
-- Assumes nothing.
use mathlib.Core.Path.{refl}
use Prim.Native.Nat.{ℕ}
use mathlib.Core.List.{List, [], ◌∷◌}
use lib.ListN.{length}
use Rattle.wire.specs.Refusals.{too_wide, against_type, against_rule, past_text}
use Rattle.wire.proofs.Among.{Among, among-row, among_then}
use Rattle.link.specs.declared.LinkInfo.{LinkInfo}
use Rattle.link.specs.declared.Range.{Range}
use Rattle.link_draft.specs.Checks.{check_range, check_link, link_checked}
use Rattle.link_draft.proofs.Firsts.{only-listed}
use Rattle.link_draft.proofs.Order.{presence-only, fields-only, rule-only, ranges-only}

abbrev pub link_checks : List ℕ
link_checks = against_type ∷ too_wide ∷ against_rule ∷ past_text ∷ []

pub check-listed : (t : List ℕ) (k : LinkInfo) → Among link_checks (check_link t k)
unfolding check_link
check-listed t k =
    among_then link_checks _ _ (only-listed link_checks against_type _ refl (presence-only k.fields))
    (among_then link_checks _ _ (only-listed link_checks too_wide _ refl (fields-only k))
    (among_then link_checks _ _ (only-listed link_checks against_rule _ refl (rule-only k.fields.dvb_binary_locator)) (only-listed link_checks past_text _ refl (ranges-only (length t) k))))

-- the answer, and that of one range alone
pub checked-listed : (t : List ℕ) (k : LinkInfo) → Among link_checks (link_checked t k).verdict
unfolding link_checked
checked-listed t k = check-listed t k

pub range_listed : (have : ℕ) (r : Range) → Among (past_text ∷ []) (check_range have r)
unfolding check_range
range_listed have r = among-row (past_text ∷ []) _ past_text _ _ refl
