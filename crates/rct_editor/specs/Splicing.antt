-- A link put between two places of a section in a lent buffer, stage by stage: for the code's own stages, and nothing that a public contract cites.
-- Assumes nothing.
use Rattle.std.specs.Prelude.{ℕ, ◌+◌, ◌-◌, ◌≤◌, ◌≡◌, List, length}
use Rattle.std.proofs.lemmas.List.Edits.{sets}
use Rattle.wire.specs.Lists.{part}
use Rattle.length_field.specs.Lengths.{block_bytes}
use Rattle.wire.specs.Verdict.{◌▷◌, Fine, Verdict}
use Rattle.link.specs.Syntax.{entry_of}
use Rattle.link.specs.Records.{link_of}
use Rattle.link.specs.declared.LinkInfo.{LinkInfo}
use Rattle.link_draft.specs.Checks.{check_link}
use Rattle.link_draft.specs.Lengths.{link_length}
use Rattle.frame.specs.Syntax.{crc_length, least, limit, uncounted}
use Rattle.frame.specs.Reading.{declared, payload_end, total_of}
use Rattle.rct.specs.Syntax.{rct, head_length}
use Rattle.rct_edit.specs.Edit.{room_rows, Outcome, done}
use Rattle.rct_edit.specs.Rehead.{rehead}
use Rattle.rct_stores.specs.Stores.{filled_up}
use Rattle.frame.specs.Ending.{sealed_at}

-- ---- the steps

-- the entry of the record k with the text t
abbrev pub entry_bytes : List ℕ → LinkInfo → List ℕ
entry_bytes t k = block_bytes (entry_of (link_of t k))

-- places p and q of a section in xs between which a link can go
pub record Spot (xs : List ℕ) (p q : ℕ) : Type 0 where
  pub large : least rct ≤ total_of xs
  pub within : total_of xs ≤ length xs
  pub low : head_length ≤ p
  pub ordered : p ≤ q
  pub inside : q ≤ payload_end xs

-- section_length with a body of n bytes between p and q
abbrev pub length_between : List ℕ → ℕ → ℕ → ℕ → ℕ
length_between xs p q n = declared xs - (q - p) + 2 + n

-- the record passes its checks, and the section with its link there, whose section_length is len, is within the limit and the room
pub record Fitting (xs : List ℕ) (p q : ℕ) (t : List ℕ) (k : LinkInfo) (len : ℕ) : Type 0 where
  pub fine : check_link t k ≡ Fine
  pub is : len ≡ length_between xs p q (link_length k)
  pub fit : len ≤ limit
  pub enough : uncounted + len ≤ length xs

-- the bytes c between p and q, what lay behind q moved to behind them, and the head's numbers anew
unfoldable pub spliced : List ℕ → ℕ → ℕ → List ℕ → ℕ → ℕ → List ℕ
spliced xs p q c len count = rehead (sets (sets xs (p + length c) (part xs q (payload_end xs - q))) p c) len count

-- then the CRC, and filler up to the old end
unfoldable pub finished : List ℕ → ℕ → ℕ → List ℕ
finished ys len total = filled_up (sealed_at ys (uncounted + len - crc_length)) (uncounted + len) total

unfoldable pub between_verdict : List ℕ → ℕ → ℕ → List ℕ → LinkInfo → Verdict
between_verdict xs p q t k = check_link t k ▷ room_rows (length xs) (length_between xs p q (link_length k))

unfoldable pub between_bytes : List ℕ → ℕ → ℕ → ℕ → List ℕ → LinkInfo → List ℕ
between_bytes xs p q count t k =
    finished (spliced xs p q (entry_bytes t k) (length_between xs p q (link_length k)) count) (length_between xs p q (link_length k)) (total_of xs)

-- the link of the record in place of what lies between p and q
unfoldable pub between : List ℕ → ℕ → ℕ → ℕ → List ℕ → LinkInfo → Outcome
between xs p q count t k =
    done (between_verdict xs p q t k) (uncounted + length_between xs p q (link_length k)) (between_bytes xs p q count t k) xs
