-- Providers and authorities of an accepted section by number: each passed, lies within the payload, and is the record's of that number; each stands behind the one before it.
-- Assumes nothing.
use mathlib.Core.Path.{◌≡◌, refl, sym, ap, ◌∙◌}
use Prim.Native.Nat.{ℕ, suc, ◌+◌, ◌≤◌, ◌<◌}
use native.Mathlib.Omega.{arith}
use mathlib.Core.List.{List, map}
use lib.ListN.{length, get_or, length-map}
use Rattle.length_field.specs.Lengths.{block_end}
use Rattle.wire.specs.Refusals.{authority_cut}
use Rattle.wire.specs.Runs.{places_to, each_row}
use Rattle.wire.specs.Verdict.{counted_row, Fine}
use Rattle.length_field.proofs.Blocks.{block_up}
use Rattle.wire.proofs.RunLaws.{each_at, told_at, place-first, place-next, place-last}
use Rattle.wire.proofs.Verdicts.{then-fine, passed-leb}
use Rattle.frame.specs.Reading.{payload_end, plain_demands}
use Rattle.rnt.specs.Syntax.{common_place, Authority, Provider}
use Rattle.rnt.specs.Reading.{named_end, authority_at, info_place, authority_places, provider_at, provider_places, section_at, provider_count, provider_place, authority_count, authority_place, authority_verdict, provider_head, provider_verdict, plain, provider_rows, authority_rows}
use Rattle.rnt.proofs.Names.{named-up, named-passed}
use Rattle.rnt.proofs.Providers.{HeadPassed, head_passed}
use Rattle.rnt.proofs.Accepted.{accepted}

-- ---- the rows of a call by number

pub provider-rows : (xs : List ℕ) (k : ℕ) → provider_rows xs k ≡ Fine → (plain xs ≡ Fine) × (k < provider_count xs)
unfolding provider_rows
provider-rows xs k v = let two = then-fine (plain xs) _ v in (two.0, passed-leb (provider_count xs) k _ _ _ two.1)

pub authority-rows : (xs : List ℕ) (k j : ℕ) → authority_rows xs k j ≡ Fine → (provider_rows xs k ≡ Fine) × (j < authority_count xs (provider_place xs k))
unfolding authority_rows
authority-rows xs k j v = let two = then-fine (provider_rows xs k) _ v in (two.0, passed-leb (authority_count xs (provider_place xs k)) j _ _ _ two.1)

-- ---- provider k

module _ (xs : List ℕ) (v : plain xs ≡ Fine) (k : ℕ) (h : k < provider_count xs) where
  abbrev p : ℕ
  p = provider_place xs k

  pub provider-fine : provider_verdict xs (payload_end xs) (provider_place xs k) ≡ Fine
  provider-fine = each_at (provider_verdict xs (payload_end xs)) (provider_places xs) k (accepted plain_demands xs v).providers_fine h

  pub provider-passed : HeadPassed xs (payload_end xs) (provider_place xs k)
  unfolding provider_verdict
  provider-passed = head_passed xs (payload_end xs) p (then-fine (provider_head xs (payload_end xs) p) _ provider-fine).0

  -- it is the record's
  pub provider-is : (d : Provider) → get_or (section_at xs).providers k d ≡ provider_at xs (provider_place xs k)
  unfolding section_at
  provider-is d = told_at (provider_at xs) (provider_places xs) k d h

  -- ---- its authority j

  module _ (j : ℕ) (l : j < authority_count xs (provider_place xs k)) where
    pub authority-fine : authority_verdict xs (block_end xs (provider_place xs k)) (authority_place xs (provider_place xs k) j) ≡ Fine
    unfolding provider_verdict
    authority-fine = each_at (authority_verdict xs (block_end xs p)) (authority_places xs p) j (then-fine (provider_head xs (payload_end xs) p) _ provider-fine).1 l

    pub authority-within : named_end xs (authority_place xs (provider_place xs k) j) ≤ payload_end xs
    authority-within = omega (arith, named-passed authority_cut authority_cut xs _ _ authority-fine, provider-passed.within)

    pub authority-is : (d : Authority) → get_or (provider_at xs (provider_place xs k)).authorities j d ≡ authority_at xs (authority_place xs (provider_place xs k) j)
    unfolding provider_at
    authority-is d = told_at (authority_at xs) (authority_places xs p) j d l

-- their numbers are the record's
pub count_is : (xs : List ℕ) → length (section_at xs).providers ≡ provider_count xs
unfolding section_at
count_is xs = length-map (provider_places xs) (provider_at xs)

pub authority-count-is : (xs : List ℕ) (p : ℕ) → length (provider_at xs p).authorities ≡ authority_count xs p
unfolding provider_at
authority-count-is xs p = length-map (authority_places xs p) (authority_at xs)

-- ---- from one place to the next: the first provider stands behind the common descriptors, the first authority behind its
-- provider's descriptors, and each further one behind the one before it; the last ends where they all do

module _ (xs : List ℕ) where
  pub provider-first : 0 < provider_count xs → provider_place xs 0 ≡ block_end xs common_place
  provider-first = place-first (block_end xs) (block_up xs) (payload_end xs) (block_end xs common_place)

  pub provider-next : (k : ℕ) → suc k < provider_count xs → provider_place xs (suc k) ≡ block_end xs (provider_place xs k)
  provider-next = place-next (block_end xs) (block_up xs) (payload_end xs) (block_end xs common_place)

  pub provider-last : plain xs ≡ Fine → (k : ℕ) → suc k ≡ provider_count xs → block_end xs (provider_place xs k) ≡ payload_end xs
  provider-last v k h =
      omega (arith, place-last (block_end xs) (block_up xs) (payload_end xs) (block_end xs common_place) k h, (provider-passed xs v k (omega arith)).within)

  module _ (p : ℕ) where
    pub authority-first : 0 < authority_count xs p → authority_place xs p 0 ≡ named_end xs (info_place p)
    authority-first = place-first (named_end xs) (named-up xs) (block_end xs p) (named_end xs (info_place p))

    pub authority-next : (j : ℕ) → suc j < authority_count xs p → authority_place xs p (suc j) ≡ named_end xs (authority_place xs p j)
    authority-next = place-next (named_end xs) (named-up xs) (block_end xs p) (named_end xs (info_place p))

  pub authority-last : plain xs ≡ Fine → (k j : ℕ) → k < provider_count xs → suc j ≡ authority_count xs (provider_place xs k)
      → named_end xs (authority_place xs (provider_place xs k) j) ≡ block_end xs (provider_place xs k)
  authority-last v k j h l =
      let p : ℕ = provider_place xs k in
      omega (arith, place-last (named_end xs) (named-up xs) (block_end xs p) (named_end xs (info_place p)) j l, named-passed authority_cut authority_cut xs _ _ (authority-fine xs v k h j (omega arith)))
