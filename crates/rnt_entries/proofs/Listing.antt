-- A walk by places lists the providers and authorities by number: at the place of provider k, and of its authority j, the calls
-- by place answer those, and their records say where the next one stands.
-- Assumes nothing.
use mathlib.Core.Path.{◌≡◌, refl, sym, ◌∙◌}
use Prim.Native.Nat.{ℕ, suc, ◌≤◌, ◌<◌}
use native.Mathlib.Omega.{arith}
use mathlib.Core.Bool.{Bool, true, false}
use mathlib.Core.List.{List}
use lib.Dec.{ltb}
use lib.ListN.{length}
use borrow.Author.Tests.{ltb-true, ltb-false}
use Rattle.length_field.specs.Lengths.{block_end}
use Rattle.wire.specs.Refusals.{authority_cut}
use Rattle.wire.proofs.RunLaws.{run-count}
use Rattle.frame.specs.Reading.{payload_end, plain_demands}
use Rattle.rnt.specs.Reading.{named_end, info_place, provider_count, provider_place, authority_count, authority_place, authority_verdict, plain}
use Rattle.rnt.specs.Records.{provider_info, authority_info}
use Rattle.rnt.proofs.Names.{named-up, named-passed, named-pass}
use Rattle.rnt.proofs.Providers.{head-pass}
use Rattle.rnt.proofs.Accepted.{accepted}
use Rattle.rnt.proofs.Numbers.{provider-passed, authority-fine, provider-next, provider-last, authority-first}
use Rattle.rnt_entries.specs.Entries.{provider_from, authority_from, found_authority}
use Rattle.rnt_heads.specs.Heads.{end_in}
use Rattle.rnt_entries.proofs.EntryLaws.{provider-found, authority-found}
use Rattle.std.specs.Prelude.{Ok}
use Rattle.wire.specs.Verdict.{Fine}

module _ (xs : List ℕ) (v : plain xs ≡ Fine) (k : ℕ) (h : k < provider_count xs) where
  inside : payload_end xs ≤ length xs
  inside = let o = (accepted plain_demands xs v).frame in omega (arith, o.within)

  pub listed-provider : provider_from xs (payload_end xs) (provider_place xs k) ≡ Ok (provider_info xs (provider_place xs k))
  listed-provider =
      let i = inside in
      let is : end_in xs (payload_end xs) ≡ payload_end xs = omega arith in
      sym (provider-found xs (payload_end xs) (provider_place xs k) (rw is (head-pass xs (payload_end xs) (provider_place xs k) (provider-passed xs v k h))))

  -- told its provider's end, or any further one
  pub listed-authority : (e j : ℕ) → j < authority_count xs (provider_place xs k) → block_end xs (provider_place xs k) ≤ e
      → authority_from xs e (authority_place xs (provider_place xs k) j)
      ≡ found_authority (authority_info xs (authority_place xs (provider_place xs k) j)) (named_end xs (authority_place xs (provider_place xs k) j))
  listed-authority e j l g =
      let i = inside in
      let q : ℕ = authority_place xs (provider_place xs k) j in
      let w = named-passed authority_cut authority_cut xs _ q (authority-fine xs v k h j l) in
      let t = (provider-passed xs v k h).within in
      sym (authority-found xs e q (named_end xs q) (named-pass authority_cut authority_cut xs (end_in xs e) q (omega arith)) refl)

-- ---- from record to record

module _ (xs : List ℕ) where
  pub next-provider : (k : ℕ) → suc k < provider_count xs → provider_place xs (suc k) ≡ (provider_info xs (provider_place xs k)).end
  next-provider = provider-next xs

  pub last-provider : plain xs ≡ Fine → (k : ℕ) → suc k ≡ provider_count xs → (provider_info xs (provider_place xs k)).end ≡ payload_end xs
  last-provider = provider-last xs

  pub first-authority : (p : ℕ) → 0 < authority_count xs p → authority_place xs p 0 ≡ (provider_info xs p).authorities_at
  first-authority = authority-first xs

  pub no-authority : plain xs ≡ Fine → (k : ℕ) → k < provider_count xs → authority_count xs (provider_place xs k) ≡ 0
      → (provider_info xs (provider_place xs k)).authorities_at ≡ (provider_info xs (provider_place xs k)).end
  no-authority v k h n = by (ltb a e) refl
    where
      a : ℕ
      a = named_end xs (info_place (provider_place xs k))

      e : ℕ
      e = block_end xs (provider_place xs k)

      w : a ≤ e
      w = (provider-passed xs v k h).named

      by : (b : Bool) → ltb a e ≡ b → a ≡ e
      by true t = absurd (omega (arith, n, run-count (named_end xs) (named-up xs) (authority_verdict xs e) e a (ltb-true a e t)))
      by false t = omega (arith, w, ltb-false a e t)
