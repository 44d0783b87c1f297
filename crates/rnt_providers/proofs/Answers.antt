-- What provider by number and authority by number answer, case by case, over plain lists.
-- Assumes nothing.
use mathlib.Core.Path.{◌≡◌, sym, ◌∙◌, ap}
use Prim.Native.Nat.{ℕ, ◌≤◌, ◌<◌}
use native.Mathlib.Omega.{arith}
use mathlib.Core.List.{List}
use Rattle.wire.specs.Refusals.{no_such_number}
use Rattle.wire.specs.declared.verdict.Refusal.{Refusal}
use Rattle.wire.proofs.RunLaws.{told_at}
use Rattle.wire.proofs.Verdicts.{fine-then, go_on, refused-then, pass-leb, break-leb, ok-same}
use Rattle.frame.specs.Reading.{payload_end}
use Rattle.rnt.specs.Reading.{provider_places, provider_count, provider_place, authority_count, authority_place, plain, provider_rows, authority_rows}
use Rattle.rnt.specs.Records.{provider_info, authority_info}
use Rattle.rnt.specs.declared.CridAuthority.{CridAuthority}
use Rattle.rnt.specs.declared.ResolutionProvider.{ResolutionProvider}
use Rattle.rnt.proofs.Numbers.{provider-passed}
use Rattle.rnt_walker.specs.Places.{authorities_of, authority_of}
use Rattle.rnt_entries.specs.Entries.{provider_from, authority_from, found_authority}
use Rattle.rnt_entries.proofs.Listing.{listed-provider, listed-authority}
use Rattle.rnt_providers.specs.Providers.{provider_by, authority_by, numbered_provider, numbered_authority, got_provider}
use Rattle.rnt_entries.specs.declared.AuthorityFound.{AuthorityFound}
use Rattle.std.specs.Prelude.{Err, Ok, Result}
use Rattle.wire.specs.Verdict.{Fine}

abbrev pub no_such : ℕ → ℕ → Refusal
no_such k n = record { number = no_such_number; first = k; second = n }

module _ (xs : List ℕ) (k : ℕ) where
  rows-closed : (r : Refusal) → plain xs ≡ Err r → provider_rows xs k ≡ Err r
  unfolding provider_rows
  rows-closed r v = refused-then _ _ r v

  rows_none : plain xs ≡ Fine → provider_count xs ≤ k → provider_rows xs k ≡ Err (no_such k (provider_count xs))
  unfolding provider_rows
  rows_none v h = go_on _ _ v ∙ break-leb (provider_count xs) k _ _ _ h

  pub rows_pass : plain xs ≡ Fine → k < provider_count xs → provider_rows xs k ≡ Fine
  unfolding provider_rows
  rows_pass v h = fine-then _ _ v (pass-leb (provider_count xs) k _ _ _ h)

  provider-by : (r : Refusal) → provider_rows xs k ≡ Err r → Err r ≡ numbered_provider xs k
  unfolding numbered_provider provider_by
  provider-by r v = rw v

  pub provider-closed : (r : Refusal) → plain xs ≡ Err r → Err r ≡ numbered_provider xs k
  provider-closed r v = provider-by r (rows-closed r v)

  pub provider-none : plain xs ≡ Fine → provider_count xs ≤ k → Err (no_such k (provider_count xs)) ≡ numbered_provider xs k
  provider-none v h = provider-by _ (rows_none v h)

  pub provider-got : provider_rows xs k ≡ Fine → numbered_provider xs k ≡ got_provider (provider_info xs (provider_place xs k)) (authority_count xs (provider_place xs k))
  unfolding numbered_provider provider_by
  provider-got v = rw v

  module _ (j : ℕ) where
    authority-by : (r : Refusal) → authority_rows xs k j ≡ Err r → Err r ≡ numbered_authority xs k j
    unfolding numbered_authority authority_by
    authority-by r v = rw v

    pub authority-stop : (r : Refusal) → provider_rows xs k ≡ Err r → authority_rows xs k j ≡ Err r
    unfolding authority_rows
    authority-stop r v = refused-then _ _ r v

    pub authority-closed : (r : Refusal) → plain xs ≡ Err r → Err r ≡ numbered_authority xs k j
    authority-closed r v = authority-by r (authority-stop r (rows-closed r v))

    pub authority-no-provider : plain xs ≡ Fine → provider_count xs ≤ k → Err (no_such k (provider_count xs)) ≡ numbered_authority xs k j
    authority-no-provider v h = authority-by _ (authority-stop _ (rows_none v h))

    pub authority-none : provider_rows xs k ≡ Fine → authority_count xs (provider_place xs k) ≤ j → Err (no_such j (authority_count xs (provider_place xs k))) ≡ numbered_authority xs k j
    unfolding authority_rows
    authority-none v h = authority-by _ (go_on _ _ v ∙ break-leb (authority_count xs (provider_place xs k)) j _ _ _ h)

    pub authority-rows-pass : provider_rows xs k ≡ Fine → j < authority_count xs (provider_place xs k) → authority_rows xs k j ≡ Fine
    unfolding authority_rows
    authority-rows-pass v h = fine-then _ _ v (pass-leb (authority_count xs (provider_place xs k)) j _ _ _ h)

    pub authority-got : authority_rows xs k j ≡ Fine → numbered_authority xs k j ≡ Ok (authority_info xs (authority_place xs (provider_place xs k) j))
    unfolding numbered_authority authority_by
    authority-got v = rw v

-- ---- by what a walk found: the places of provider k and of its authority j, where there are such

module _ (xs : List ℕ) (v : plain xs ≡ Fine) (k : ℕ) (h : k < provider_count xs) where
  pub authorities-are : authorities_of xs k ≡ authority_count xs (provider_place xs k)
  authorities-are = told_at (authority_count xs) (provider_places xs) k 0 h

  pub authority-stands : (j : ℕ) → authority_of xs k j ≡ authority_place xs (provider_place xs k) j
  authority-stands j = told_at (λ p. authority_place xs p j) (provider_places xs) k 0 h

  -- the call by place answers that provider
  module _ (f : Result ResolutionProvider Refusal) (is : f ≡ provider_from xs (payload_end xs) (provider_place xs k)) where
    pub provider-said : (p : ResolutionProvider) (n : ℕ) → f ≡ Ok p → n ≡ authorities_of xs k → got_provider p n ≡ numbered_provider xs k
    provider-said p n e m =
        let t = ok-same _ p (sym (listed-provider xs v k h) ∙ sym is ∙ e) in
        rw (← t, m, authorities-are) (sym (provider-got xs k (rows_pass xs k v h)))

    pub provider-never : (r : Refusal) → f ≡ Err r → ⊥
    provider-never r e = apart (sym (listed-provider xs v k h) ∙ sym is ∙ e)
      where
        apart : {p : ResolutionProvider} → Ok p ≡ Err r → ⊥
        apart g = let z : ◌≡◌ {A = ℕ} 0 1 = cc in omega arith

  same-authority : (p q : CridAuthority) (m n : ℕ) → found_authority p m ≡ found_authority q n → p ≡ q
  same-authority p q m n e = ap (λ a. a.authority) (ok-same (record { authority = p; next = m }) (record { authority = q; next = n }) e)

  -- and that authority
  module _ (j : ℕ) (l : j < authority_count xs (provider_place xs k)) (f : Result AuthorityFound Refusal) (is : f ≡ authority_from xs (payload_end xs) (authority_place xs (provider_place xs k) j)) where
    pub authority-said : (p : CridAuthority) (n : ℕ) → f ≡ found_authority p n → Ok p ≡ numbered_authority xs k j
    authority-said p n e =
        let t = same-authority _ p _ n (sym (listed-authority xs v k h (payload_end xs) j l (provider-passed xs v k h).within) ∙ sym is ∙ e) in
        rw (← t) (sym (authority-got xs k j (authority-rows-pass xs k j (rows_pass xs k v h) l)))

    pub authority-never : (r : Refusal) → f ≡ Err r → ⊥
    authority-never r e = apart (sym (listed-authority xs v k h (payload_end xs) j l (provider-passed xs v k h).within) ∙ sym is ∙ e)
      where
        apart : {p : CridAuthority} {n : ℕ} → found_authority p n ≡ Err r → ⊥
        apart g = let z : ◌≡◌ {A = ℕ} 0 1 = cc in omega arith
