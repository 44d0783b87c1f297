-- Demand 2 over what the calls answer. Rebuilt: the section that they tell of accepted bytes, its syntax indicator set, is written as those bytes up to the CRC. Read back: of what a section is written as, with four bytes and more behind it, they tell that section.
-- Assumes nothing.
use Prim.Native.Nat.{ℕ, zero, suc, ◌+◌, ◌≤◌, ◌<◌}
use mathlib.Core.Path.{◌≡◌, refl, sym, ap, ◌∙◌}
use mathlib.Core.Bool.{true}
use mathlib.Core.List.{List, [], ◌∷◌, ◌++◌, map}
use native.Mathlib.Omega.{arith}
use lib.ListN.{length, get_or, take}
use Rattle.wire.specs.Lists.{Bytes}
use Rattle.frame.specs.Syntax.{crc_length}
use Rattle.frame.specs.Reading.{payload_end, plain_demands}
use Rattle.rnt.specs.Syntax.{Section, section_bytes, Fits}
use Rattle.rnt.specs.Reading.{authority_at, authority_places, provider_at, provider_places, section_at, provider_count, provider_place, authority_count, authority_place, plain}
use Rattle.rnt.proofs.Accepted.{rebuilt, back}
use Rattle.rnt_reader.specs.Sections.{section_read}
use Rattle.rnt_providers.specs.Providers.{numbered_provider, numbered_authority}
use Rattle.rnt_providers.proofs.Answers.{rows_pass, provider-got, authority-rows-pass, authority-got}
use Rattle.rnt_demands.specs.Told.{asked, authority_told, provider_told, section_told, told}
use Rattle.wire.specs.Verdict.{Fine}

-- what is told of each number is what stands at the places
asked-all : {A : Type 0} (tell : ℕ → A) (g : ℕ → A) (n k : ℕ) (ps : List ℕ) → length ps ≡ n → ((i : ℕ) → i < n → tell (k + i) ≡ g (get_or ps i 0)) → asked n k tell ≡ map g ps
asked-all tell g zero k [] e h = refl
asked-all tell g zero k (p ∷ ps) e h = absurd (omega arith)
asked-all tell g (suc n) k [] e h = absurd (omega arith)
asked-all tell g (suc n) k (p ∷ ps) e h =
    let z : k + 0 ≡ k = omega arith in
    let first : tell k ≡ g p = sym (ap tell z) ∙ h 0 (omega arith) in
    let rest = asked-all tell g n (suc k) ps (omega arith) (λ i l. let s : suc k + i ≡ k + suc i = omega arith in ap tell s ∙ h (suc i) (omega arith)) in
    λ i. first i ∷ rest i

module _ (xs : List ℕ) (v : plain xs ≡ Fine) where
  authority-told : (k j : ℕ) → k < provider_count xs → j < authority_count xs (provider_place xs k)
      → authority_told xs (numbered_authority xs k j) ≡ authority_at xs (authority_place xs (provider_place xs k) j)
  unfolding authority_told
  authority-told k j h l = rw (authority-got xs k j (authority-rows-pass xs k j (rows_pass xs k v h) l))

  provider-told : (k : ℕ) → k < provider_count xs → provider_told xs (numbered_provider xs k) (numbered_authority xs k) ≡ provider_at xs (provider_place xs k)
  unfolding provider_told provider_at
  provider-told k h =
      rw (
        provider-got xs k (rows_pass xs k v h),
        asked-all (λ j. authority_told xs (numbered_authority xs k j)) (authority_at xs) (authority_count xs (provider_place xs k)) 0 (authority_places xs (provider_place xs k)) refl
            (λ i l. let z : 0 + i ≡ i = omega arith in ap (λ j. authority_told xs (numbered_authority xs k j)) z ∙ authority-told k i h l),
      )

  -- the calls tell the section that the bytes stand for
  pub told-section : told xs ≡ section_at xs
  unfolding told section_told section_read section_at
  told-section =
      rw (
        v,
        asked-all (λ k. provider_told xs (numbered_provider xs k) (numbered_authority xs k)) (provider_at xs) (provider_count xs) 0 (provider_places xs) refl
            (λ i l. let z : 0 + i ≡ i = omega arith in ap (λ k. provider_told xs (numbered_provider xs k) (numbered_authority xs k)) z ∙ provider-told i l),
      )

pub record ToldRebuilt (xs : List ℕ) : Type 0 where
  pub same : section_bytes (told xs) ≡ take (payload_end xs) xs
  pub fits : Fits plain_demands (told xs)

-- of accepted bytes whose syntax indicator is set
pub demand-rebuilt : (xs : List ℕ) → Bytes xs → plain xs ≡ Fine → (told xs).header.section.section_syntax_indicator ≡ true → ToldRebuilt xs
demand-rebuilt xs b v i =
    let r = rebuilt plain_demands xs b v in
    let e = told-section xs v in
    record { same = rw e r.same; fits = rw e r.fits }

pub demand-read-back : (s : Section) (tail : List ℕ) → Fits plain_demands s → crc_length ≤ length tail → told (section_bytes s ++ tail) ≡ s
demand-read-back s tail f t =
    let b = back plain_demands s tail (omega arith) f t in
    told-section (section_bytes s ++ tail) b.passed ∙ b.same
