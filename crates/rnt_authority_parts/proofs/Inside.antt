-- Each part lies in the section, also where there is none; and what it is.
-- Assumes nothing.
use mathlib.Core.Path.{◌≡◌}
use Prim.Native.Nat.{ℕ, ◌+◌, ◌≤◌}
use native.Mathlib.Omega.{arith}
use mathlib.Core.List.{List}
use lib.ListN.{length, get_or}
use Rattle.spans.specs.Spans.{span, span_of, span_in}
use Rattle.wire.specs.declared.verdict.Refusal.{Refusal}
use Rattle.rnt.specs.Syntax.{Authority, Provider}
use Rattle.rnt.specs.Reading.{section_at, authority_rows}
use Rattle.rnt.proofs.Numbers.{provider-rows, authority-rows, authority-within, provider-is, authority-is}
use Rattle.rnt_providers.specs.Providers.{authority_by, numbered_authority}
use Rattle.rnt_parts.proofs.Inside.{payload-inside, by-verdict}
use Rattle.rnt_authority_parts.specs.Parts.{authority_name_of, authority_descriptors_of, authority_name, authority_descriptors}
use Rattle.std.specs.Prelude.{Err}
use Rattle.wire.specs.Verdict.{Fine}

module _ (xs : List ℕ) (k j : ℕ) where
  -- ---- what each span is: the record's, by the verdict of its call

  pub authority-name-had : (d : Provider) (a : Authority) → authority_rows xs k j ≡ Fine → span_of xs (authority_name xs k j) ≡ (get_or (get_or (section_at xs).providers k d).authorities j a).name
  unfolding authority_name_of numbered_authority authority_by
  authority-name-had d a v =
      let o = authority-rows xs k j v in
      let q = provider-rows xs k o.0 in
      rw (v, provider-is xs q.0 k q.1 d, authority-is xs q.0 k q.1 j o.1 a)

  pub authority-descriptors-had : (d : Provider) (a : Authority) → authority_rows xs k j ≡ Fine
      → span_of xs (authority_descriptors xs k j) ≡ (get_or (get_or (section_at xs).providers k d).authorities j a).descriptors
  unfolding authority_descriptors_of numbered_authority authority_by
  authority-descriptors-had d a v =
      let o = authority-rows xs k j v in
      let q = provider-rows xs k o.0 in
      rw (v, provider-is xs q.0 k q.1 d, authority-is xs q.0 k q.1 j o.1 a)

  pub authority-none : (r : Refusal) → authority_rows xs k j ≡ Err r → (authority_name xs k j ≡ span 0 0) × (authority_descriptors xs k j ≡ span 0 0)
  unfolding authority_name_of authority_descriptors_of numbered_authority authority_by
  authority-none r v = (rw v, rw v)

  -- ---- inside

  authority-name-fine : authority_rows xs k j ≡ Fine → (authority_name xs k j).start + (authority_name xs k j).length ≤ length xs
  unfolding authority_name_of numbered_authority authority_by
  authority-name-fine v =
      let o = authority-rows xs k j v in
      let q = provider-rows xs k o.0 in
      rw v (omega (arith, authority-within xs q.0 k q.1 j o.1, payload-inside xs q.0))

  pub authority-name-inside : span_in xs (authority_name xs k j) ≡ authority_name xs k j
  authority-name-inside = by-verdict xs (authority_rows xs k j) (authority_name xs k j) authority-name-fine (λ r v. (authority-none r v).0)

  authority-descriptors-fine : authority_rows xs k j ≡ Fine → (authority_descriptors xs k j).start + (authority_descriptors xs k j).length ≤ length xs
  unfolding authority_descriptors_of numbered_authority authority_by
  authority-descriptors-fine v =
      let o = authority-rows xs k j v in
      let q = provider-rows xs k o.0 in
      rw v (omega (arith, authority-within xs q.0 k q.1 j o.1, payload-inside xs q.0))

  pub authority-descriptors-inside : span_in xs (authority_descriptors xs k j) ≡ authority_descriptors xs k j
  authority-descriptors-inside = by-verdict xs (authority_rows xs k j) (authority_descriptors xs k j) authority-descriptors-fine (λ r v. (authority-none r v).1)
