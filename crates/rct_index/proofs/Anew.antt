-- What an edit makes of any index that is handed in, number by number: the named link is told, the places of later links below the count move by the change in size modulo 65,536, and nothing else changes.
-- Assumes nothing.
use Prim.Native.Nat.{ℕ, ◌+◌, ◌%◌, ◌≤◌, ◌<◌}
use mathlib.Core.Path.{◌≡◌, refl, ap, ◌∙◌}
use mathlib.Core.Logic.{◌≢◌}
use mathlib.Core.Bool.{Bool, false}
use native.Mathlib.Omega.{arith}
use lib.ListN.{length, get_or, set}
use lib.Seq.{get_or-set_same, get_or-set_other}
use Rattle.number_set.specs.Members.{size, members, Fits, is_member}
use Rattle.number_set.specs.declared.NumberSet.{NumberSet}
use Rattle.number_set.proofs.Sets.{length-members, members-with}
use Rattle.rct_index.specs.Index.{told, with_marks}
use Rattle.rct_index.specs.Editing.{turns, moved_place, new_place, by_number, told_anew}
use Rattle.rct_index.specs.declared.LinkMarks.{LinkMarks}
use Rattle.rct_index.specs.declared.LinkSets.{LinkSets}
use Rattle.rct_index.specs.declared.RctIndex.{RctIndex}
use Rattle.rct_index.proofs.BroughtUp.{place-named, place-later, place-before, place-above}
use Rattle.rct_index.proofs.Places.{numbered-at, length-numbered}

-- ---- one set: link k is told, and every other is as it was

pub record ToldIn (s t : NumberSet) (k : ℕ) (b : Bool) : Type 0 where
  pub named : is_member t k ≡ b
  pub others : (j : ℕ) → j ≢ k → is_member t j ≡ is_member s j

told_in : (s : NumberSet) (k : ℕ) (b : Bool) → Fits s → k < size → ToldIn s (told s k b) k b
told_in s k b f h =
    record {
      named = ap (λ l. get_or l k false) (members-with s k b f) ∙ get_or-set_same (members s) k b false (omega (arith, length-members s f));
      others = λ j d. ap (λ l. get_or l j false) (members-with s k b f) ∙ get_or-set_other (members s) k j b false d;
    }

pub record SetsFit (s : LinkSets) : Type 0 where
  pub uri : Fits s.uri
  pub locator : Fits s.locator
  pub icon : Fits s.icon

-- ---- the whole index, of which link k of n is told: m, and that it stands at q of a section that was old bytes long and is new

pub record Anew (i j : RctIndex) (k n q old new : ℕ) (m : LinkMarks) : Type 0 where
  pub uri : ToldIn i.sets.uri j.sets.uri k m.uri
  pub locator : ToldIn i.sets.locator j.sets.locator k m.locator
  pub icon : ToldIn i.sets.icon j.sets.icon k m.icon
  pub as_many : length j.places ≡ length i.places
  pub named : k < length i.places → get_or j.places k 0 ≡ q
  pub earlier : (l : ℕ) → l < length i.places → l < k → get_or j.places l 0 ≡ get_or i.places l 0
  pub later : (l : ℕ) → l < length i.places → k < l → l < n → (get_or j.places l 0 + old) % 65536 ≡ (get_or i.places l 0 + new) % 65536
  pub turned : (l : ℕ) → l < length i.places → k < l → l < n → get_or j.places l 0 < 65536
  pub past : (l : ℕ) → l < length i.places → k < l → n ≤ l → get_or j.places l 0 ≡ get_or i.places l 0
  pub descriptors : j.descriptors ≡ i.descriptors

-- a place that moves: so many bytes more, or fewer, modulo 65,536
moved-turns : (old new p : ℕ) → old ≤ turns → ((moved_place old new p + old) % 65536 ≡ (p + new) % 65536) × (moved_place old new p < 65536)
moved-turns old new p h = (omega arith, omega arith)

pub anew : (i : RctIndex) (k n q old new : ℕ) (m : LinkMarks) → SetsFit i.sets → k < size → old ≤ turns → Anew i (told_anew i k n q old new m) k n q old new m
unfolding told_anew with_marks
anew i k n q old new m f h small =
    record {
      uri = told_in i.sets.uri k m.uri f.uri h;
      locator = told_in i.sets.locator k m.locator f.locator h;
      icon = told_in i.sets.icon k m.icon f.icon h;
      as_many = length-numbered (new_place k n q old new) 0 i.places;
      named = λ l. at k l ∙ place-named k n q old new k _ refl;
      earlier = λ l b g. at l b ∙ place-before k n q old new l _ g;
      later = λ l b g o. ap (λ p. (p + old) % 65536) (at l b ∙ place-later k n q old new l _ g o) ∙ (moved-turns old new (get_or i.places l 0) small).0;
      turned = λ l b g o. omega (arith, at l b ∙ place-later k n q old new l _ g o, (moved-turns old new (get_or i.places l 0) small).1);
      past = λ l b g o. at l b ∙ place-above k n q old new l _ g o;
      descriptors = refl;
    }
  where
    at : (l : ℕ) → l < length i.places → get_or (by_number (new_place k n q old new) 0 i.places) l 0 ≡ new_place k n q old new l (get_or i.places l 0)
    at l b = numbered-at (new_place k n q old new) i.places l b
