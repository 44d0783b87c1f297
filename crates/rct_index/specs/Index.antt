-- An index beside a related content section (request 103), said by the records: which links have a URI, a locator and the default icon flag, where the syntax puts each link's entry, and how many descriptors the loop has.
-- Assumes nothing.
use Rattle.std.specs.Prelude.{ℕ, ◌+◌, ◌-◌, Bool, List, [], ◌∷◌, ◌++◌, map, length, get_or, set, replicate}
use Rattle.length_field.specs.Lengths.{block_bytes}
use Rattle.number_set.specs.Members.{members, of_members}
use Rattle.number_set.specs.declared.NumberSet.{NumberSet}
use Rattle.descriptors.specs.Reading.{descriptors_of}
use Rattle.link.specs.Syntax.{Link, here, entry_of}
use Rattle.link.specs.declared.LinkFields.{LinkFields}
use Rattle.link_draft.specs.Checks.{uri_here, locator_here}
use Rattle.rct.specs.Syntax.{head_length, Section}
use Rattle.rct_edit.specs.Edit.{most_links}
use Rattle.rct_index.specs.declared.LinkMarks.{LinkMarks}
use Rattle.rct_index.specs.declared.LinkSets.{LinkSets}
use Rattle.rct_index.specs.declared.RctIndex.{RctIndex}

-- ---- what is told of a link

unfoldable pub link_marks : Link → LinkMarks
link_marks l = record { uri = here l.uri; locator = here l.locator; icon = l.default_icon }

-- and of a record, as the code carries it
unfoldable pub marks_in : LinkFields → LinkMarks
marks_in f = record { uri = uri_here f.media_uri; locator = locator_here f.dvb_binary_locator; icon = f.default_icon_flag }

-- ---- the sets: link k is in a set if it has the property

abbrev pub having : (LinkMarks → Bool) → List Link → List Bool
having has ls = map (λ (l : Link). has (link_marks l)) ls

unfoldable pub sets_of : List Link → LinkSets
sets_of ls =
    record {
      uri = of_members (having (λ (m : LinkMarks). m.uri) ls);
      locator = of_members (having (λ (m : LinkMarks). m.locator) ls);
      icon = of_members (having (λ (m : LinkMarks). m.icon) ls);
    }

-- any sets, with link k told anew
abbrev pub told : NumberSet → ℕ → Bool → NumberSet
told s k b = of_members (set (members s) k b)

unfoldable pub with_marks : LinkSets → ℕ → LinkMarks → LinkSets
with_marks s k m = record { uri = told s.uri k m.uri; locator = told s.locator k m.locator; icon = told s.icon k m.icon }

-- ---- the places

-- of the entries of links the first of which stands at p: each stands behind the one before
abbrev pub entry_places : ℕ → List Link → List ℕ
entry_places p [] = []
entry_places p (l ∷ ls) = p ∷ entry_places (p + length (block_bytes (entry_of l))) ls

-- as many as a section has links at most, zeros past the last
abbrev pub filled_places : List ℕ → List ℕ
filled_places ps = ps ++ replicate (most_links - length ps) 0

-- the place of link k among them
abbrev pub place_in : List ℕ → ℕ → ℕ
place_in ps k = get_or ps k 0

-- ---- the index of a section, and that of nothing

unfoldable pub index_of : Section → RctIndex
index_of s =
    record {
      sets = sets_of s.links;
      places = filled_places (entry_places head_length s.links);
      descriptors = length (descriptors_of s.loop.body);
    }

unfoldable pub no_index : RctIndex
no_index = record { sets = sets_of []; places = filled_places []; descriptors = 0 }
