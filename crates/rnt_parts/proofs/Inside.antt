-- Each part lies in the section, also where there is none; and what it is.
-- Assumes nothing.
use mathlib.Core.Path.{◌≡◌, refl}
use Prim.Native.Nat.{ℕ, ◌+◌, ◌≤◌}
use native.Mathlib.Omega.{arith}
use mathlib.Core.List.{List}
use lib.ListN.{length, get_or}
use Rattle.spans.specs.Spans.{span, span_of, span_in}
use Rattle.spans.specs.declared.Span.{Span}
use Rattle.wire.specs.declared.verdict.Refusal.{Refusal}
use Rattle.spans.proofs.SpanLaws.{span-inside}
use Rattle.frame.specs.Reading.{payload_end, plain_demands}
use Rattle.rnt.specs.Syntax.{Provider}
use Rattle.rnt.specs.Reading.{provider_at, section_at, plain, provider_rows}
use Rattle.rnt.proofs.Accepted.{accepted}
use Rattle.rnt.proofs.Numbers.{provider-rows, provider-passed, provider-is}
use Rattle.rnt_reader.specs.Sections.{section_read}
use Rattle.rnt_providers.specs.Providers.{provider_by, numbered_provider}
use Rattle.rnt_parts.specs.Parts.{common_of, provider_name_of, provider_descriptors_of, common_span, provider_name, provider_descriptors}
use Rattle.std.specs.Prelude.{Err, Ok}
use Rattle.wire.specs.Verdict.{Fine, Verdict}

-- ---- what each span is: the record's, by the verdict of its call

module _ (xs : List ℕ) where
  pub common-had : plain xs ≡ Fine → span_of xs (common_span xs) ≡ (section_at xs).common.body
  unfolding common_of section_read section_at
  common-had v = rw v

  pub common-none : (r : Refusal) → plain xs ≡ Err r → common_span xs ≡ span 0 0
  unfolding common_of section_read
  common-none r v = rw v

  module _ (k : ℕ) where
    pub provider-name-had : (d : Provider) → provider_rows xs k ≡ Fine → span_of xs (provider_name xs k) ≡ (get_or (section_at xs).providers k d).named.name
    unfolding provider_name_of numbered_provider provider_by provider_at
    provider-name-had d v = let o = provider-rows xs k v in rw (v, provider-is xs o.0 k o.1 d)

    pub provider-descriptors-had : (d : Provider) → provider_rows xs k ≡ Fine → span_of xs (provider_descriptors xs k) ≡ (get_or (section_at xs).providers k d).named.descriptors.body
    unfolding provider_descriptors_of numbered_provider provider_by provider_at
    provider-descriptors-had d v = let o = provider-rows xs k v in rw (v, provider-is xs o.0 k o.1 d)

    pub provider-none : (r : Refusal) → provider_rows xs k ≡ Err r → (provider_name xs k ≡ span 0 0) × (provider_descriptors xs k ≡ span 0 0)
    unfolding provider_name_of provider_descriptors_of numbered_provider provider_by
    provider-none r v = (rw v, rw v)

  -- ---- inside

  pub payload-inside : plain xs ≡ Fine → payload_end xs ≤ length xs
  payload-inside v = let o = (accepted plain_demands xs v).frame in omega (arith, o.within)

  -- a span that lies within where the verdict is fine, and else is nothing
  pub by-verdict : (v : Verdict) (s : Span) → (v ≡ Fine → s.start + s.length ≤ length xs) → ((r : Refusal) → v ≡ Err r → s ≡ span 0 0) → span_in xs s ≡ s
  by-verdict (Ok _) s f g = span-inside xs s (f refl)
  by-verdict (Err r) s f g = let z = g r refl in span-inside xs s (rw z (omega arith))

  common-fine : plain xs ≡ Fine → (common_span xs).start + (common_span xs).length ≤ length xs
  unfolding common_of section_read
  common-fine v = rw v (omega (arith, (accepted plain_demands xs v).common, payload-inside v))

  pub common-inside : span_in xs (common_span xs) ≡ common_span xs
  common-inside = by-verdict (plain xs) (common_span xs) common-fine common-none

  module _ (k : ℕ) where
    name-fine : provider_rows xs k ≡ Fine → (provider_name xs k).start + (provider_name xs k).length ≤ length xs
    unfolding provider_name_of numbered_provider provider_by
    name-fine v =
        let o = provider-rows xs k v in
        let h = provider-passed xs o.0 k o.1 in
        rw v (omega (arith, h.within, h.named, payload-inside o.0))

    pub provider-name-inside : span_in xs (provider_name xs k) ≡ provider_name xs k
    provider-name-inside = by-verdict (provider_rows xs k) (provider_name xs k) name-fine (λ r v. (provider-none k r v).0)

    descriptors-fine : provider_rows xs k ≡ Fine → (provider_descriptors xs k).start + (provider_descriptors xs k).length ≤ length xs
    unfolding provider_descriptors_of numbered_provider provider_by
    descriptors-fine v =
        let o = provider-rows xs k v in
        let h = provider-passed xs o.0 k o.1 in
        rw v (omega (arith, h.within, h.named, payload-inside o.0))

    pub provider-descriptors-inside : span_in xs (provider_descriptors xs k) ≡ provider_descriptors xs k
    provider-descriptors-inside = by-verdict (provider_rows xs k) (provider_descriptors xs k) descriptors-fine (λ r v. (provider-none k r v).1)
