-- What a walk over a head answers, case by case, over plain lists; and the end that it goes by.
-- Assumes nothing.
use mathlib.Core.Path.{◌≡◌, refl, ◌∙◌, ap, sym}
use Prim.Native.Nat.{ℕ, ◌≤◌}
use native.Mathlib.Omega.{arith}
use mathlib.Core.List.{List}
use lib.ListN.{length}
use Rattle.wire.specs.Verdict.{bad, reached, Fine, Verdict}
use Rattle.wire.specs.Refusals.{provider_cut, provider_too_long, provider_name_cut, provider_descriptors_cut}
use Rattle.wire.specs.declared.verdict.Refusal.{Refusal}
use Rattle.wire.proofs.Verdicts.{go_on, refused-then, ok-same}
use Rattle.length_field.specs.Lengths.{block_end, block_verdict}
use Rattle.rnt.specs.Reading.{info_place, named_verdict, provider_head}
use Rattle.rnt_heads.specs.Heads.{end_in, headed, found_head}
use Rattle.std.specs.Prelude.{Err, Ok}

pub cut-reached : (v : Verdict) (p n f g : ℕ) → v ≡ bad n f g → reached (bad n f g) 0 ≡ reached v p
unfolding reached
cut-reached v p n f g e = rw e

pub record HeadKnown (v : Verdict) (p q a b : ℕ) : Type 0 where
  pub fine : v ≡ Fine
  pub first : p ≡ a
  pub end : q ≡ b

pub headed-at : (v : Verdict) (p q a b : ℕ) → headed v p q ≡ found_head a b → HeadKnown v p q a b
unfolding headed
headed-at (Ok _) p q a b e = let same = ok-same _ _ e in record { fine = refl; first = ap (λ h. h.first) same; end = ap (λ h. h.end) same }
headed-at (Err r) p q a b e = let z : ◌≡◌ {A = ℕ} 0 1 = cc in absurd (omega arith)

pub headed-refused : (v : Verdict) (p q : ℕ) (r : Refusal) → headed v p q ≡ Err r → v ≡ Err r
unfolding headed
headed-refused (Ok _) p q r e = let z : ◌≡◌ {A = ℕ} 0 1 = cc in absurd (omega arith)
headed-refused (Err r') p q r e = cc

pub at-headed : (v : Verdict) (p q a b : ℕ) → v ≡ Fine → p ≡ a → q ≡ b → found_head a b ≡ headed v p q
unfolding headed
at-headed v p q a b f g h = rw (f, g, h)

pub refused-headed : (v : Verdict) (p q : ℕ) (r : Refusal) → v ≡ Err r → Err r ≡ headed v p q
unfolding headed
refused-headed v p q r e = rw e

-- ---- the length of a provider, then its name and descriptors

module _ (xs : List ℕ) (e p : ℕ) where
  pub head-stop : (r : Refusal) → block_verdict provider_cut provider_too_long xs e p ≡ Err r → provider_head xs e p ≡ Err r
  unfolding provider_head
  head-stop r v = refused-then _ _ r v

  -- behind its length the verdict on its head is that on the name and the descriptors
  pub head-on : (q : ℕ) → block_verdict provider_cut provider_too_long xs e p ≡ Fine → block_end xs p ≡ q
      → provider_head xs e p ≡ named_verdict provider_name_cut provider_descriptors_cut xs q (info_place p)
  unfolding provider_head
  head-on q v g = go_on _ _ v ∙ rw g

-- ---- the end that is told, or the slice's where that comes first

module _ (xs : List ℕ) (e : ℕ) where
  pub end-told : e ≤ length xs → end_in xs e ≡ e
  end-told h = omega arith

  pub end_short : length xs ≤ e → end_in xs e ≡ length xs
  end_short h = omega arith
