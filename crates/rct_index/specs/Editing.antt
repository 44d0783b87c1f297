-- What an edit makes of any index that is handed in with it: the named link's bits and place are set, the places of later links move by the change in size, and nothing else changes.
-- Assumes nothing.
use Rattle.std.specs.Prelude.{ℕ, suc, ◌+◌, ◌-◌, ◌%◌, ◌^◌, ◌&&◌, List, [], ◌∷◌, ltb, eqb, length, Err, Ok}
use Rattle.wire.specs.Choice.{pick}
use Rattle.link.specs.Syntax.{Link}
use Rattle.link.specs.Records.{link_of}
use Rattle.link.specs.declared.LinkInfo.{LinkInfo}
use Rattle.rct.specs.Syntax.{Section, full_length, entry_place}
use Rattle.rct.specs.Reading.{section_at}
use Rattle.rct_edit.specs.Edit.{with_link, with_next, Outcome}
use Rattle.rct_edit.specs.Answers.{answer}
use Rattle.rct_edit.specs.Calls.{appending, replacing}
use Rattle.rct_index.specs.Index.{link_marks, with_marks}
use Rattle.rct_index.specs.declared.IndexEdited.{IndexEdited}
use Rattle.rct_index.specs.declared.LinkMarks.{LinkMarks}
use Rattle.rct_index.specs.declared.RctIndex.{RctIndex}
use Rattle.wire.specs.Verdict.{Verdict}

-- ---- places

-- a place has 16 bits
abbrev pub turns : ℕ
turns = 2 ^ 16

-- a place p behind bytes that became new from old: it moves by the change in size, modulo 65,536
abbrev pub moved_place : ℕ → ℕ → ℕ → ℕ
moved_place old new p = (p + new + (turns - old)) % turns

-- link k of n stands at q, and the section is new bytes long, old before: the place p of link j becomes
unfoldable pub new_place : ℕ → ℕ → ℕ → ℕ → ℕ → ℕ → ℕ → ℕ
new_place k n q old new j p = pick (eqb j k) q (pick (ltb k j && ltb j n) (moved_place old new p) p)

-- places by their numbers, the first of which is j
abbrev pub by_number : (ℕ → ℕ → ℕ) → ℕ → List ℕ → List ℕ
by_number f j [] = []
by_number f j (p ∷ ps) = f j p ∷ by_number f (suc j) ps

-- ---- the index

-- the index i with link k of n told anew, of which m is told now and which stands at q of a section that was old bytes long and is new
unfoldable pub told_anew : RctIndex → ℕ → ℕ → ℕ → ℕ → ℕ → LinkMarks → RctIndex
told_anew i k n q old new m =
    record { sets = with_marks i.sets k m; places = by_number (new_place k n q old new) 0 i.places; descriptors = i.descriptors }

-- by the records: link k of the section s becomes l, and the section s'
abbrev pub index_with : RctIndex → Section → ℕ → Link → Section → RctIndex
index_with i s k l s' = told_anew i k (length s.links) (entry_place s k) (full_length s) (full_length s') (link_marks l)

-- an edit that is refused gives back the index that was handed in
unfoldable pub brought_up : Verdict → RctIndex → RctIndex → RctIndex
brought_up (Ok _) new old = new
brought_up (Err r) new old = old

abbrev pub indexed : Outcome → RctIndex → RctIndex → IndexEdited
indexed o new old = record { edited = answer o; index = brought_up o.verdict new old }

unfoldable pub appending_indexed : List ℕ → List ℕ → LinkInfo → RctIndex → IndexEdited
appending_indexed xs t k i =
    indexed (appending xs t k) (index_with i (section_at xs) (length (section_at xs).links) (link_of t k) (with_next (section_at xs) (link_of t k))) i

unfoldable pub replacing_indexed : List ℕ → ℕ → List ℕ → LinkInfo → RctIndex → IndexEdited
replacing_indexed xs n t k i = indexed (replacing xs n t k) (index_with i (section_at xs) n (link_of t k) (with_link (section_at xs) n (link_of t k))) i
