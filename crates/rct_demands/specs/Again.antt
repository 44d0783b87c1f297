-- The calls that make a section again: what plain reading and link by number answer of it is handed to making and appending, each range one of the section itself, which is the text.
-- Assumes nothing.
use Rattle.std.specs.Prelude.{ℕ, zero, suc, ◌+◌, ◌<◌, ◌≡◌, List, [], ◌∷◌, ◌++◌, take, drop}
use Rattle.wire.specs.Numbers.{bytes32}
use Rattle.crc.specs.Crc.{crc_of}
use Rattle.link.specs.declared.LinkInfo.{LinkInfo}
use Rattle.frame.specs.Reading.{payload_end, total_of}
use Rattle.rct_links.specs.Links.{numbered_link}
use Rattle.rct_edit.specs.Edit.{Outcome}
use Rattle.rct_edit.specs.Calls.{making, appending}
use Rattle.rct_reader.specs.declared.RctSection.{RctSection}
use Rattle.wire.specs.Verdict.{Fine, verdict_of}
use Rattle.link.specs.Answers.{link_got}

-- the records that link by number answers, of n links from link k on, and of all links of the record s that the plain reading answers
abbrev pub links_from : ℕ → ℕ → List ℕ → List LinkInfo
links_from zero k xs = []
links_from (suc n) k xs = link_got (numbered_link xs k) ∷ links_from n (k + 1) xs

abbrev pub links_read : List ℕ → RctSection → List LinkInfo
links_read xs s = links_from s.number_of_links 0 xs

-- the section of xs made in zs, with no links as yet
abbrev pub made_again : List ℕ → List ℕ → RctSection → Outcome
made_again zs xs s = making zs s.header s.reserved_descriptor_loop_length xs s.descriptors

-- links with the text t appended one after the other, each to the buffer that the call before it left: the outcome of the last call, which is o where there is no link
abbrev pub append_all : Outcome → List ℕ → List LinkInfo → Outcome
append_all o t [] = o
append_all o t (a ∷ more) = append_all (appending o.buffer t a) t more

-- neither the call before nor any of these is refused
abbrev pub AllAccepted : Outcome → List ℕ → List LinkInfo → Type 0
AllAccepted o t [] = o.verdict ≡ Fine
AllAccepted o t (a ∷ more) = (o.verdict ≡ Fine) × AllAccepted (appending o.buffer t a) t more

-- the whole section of xs made again in zs
abbrev pub rebuilt_in : List ℕ → List ℕ → RctSection → Outcome
rebuilt_in zs xs s = append_all (made_again zs xs s) xs (links_read xs s)

-- Link by number is fine for each link, and no call that writes is refused. The last one answers the section's total.
-- The buffer then has the old bytes up to the CRC, the right CRC, and what lay behind.
pub record RebuiltSection (xs zs : List ℕ) (s : RctSection) : Type 0 where
  pub links_are_read : (k : ℕ) → k < s.number_of_links → verdict_of (numbered_link xs k) ≡ Fine
  pub none_refused : AllAccepted (made_again zs xs s) xs (links_read xs s)
  pub total : (rebuilt_in zs xs s).total ≡ total_of xs
  pub bytes : (rebuilt_in zs xs s).buffer ≡ (take (payload_end xs) xs ++ bytes32 (crc_of (take (payload_end xs) xs))) ++ drop (total_of xs) zs
