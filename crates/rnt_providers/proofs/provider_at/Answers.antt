use Prim.Native.Nat.{◌-◌}
use mathlib.Core.Path.{◌≡◌, ap, ◌∙◌}
use native.Mathlib.Omega.{arith}
use Rattle.length_field.proofs.Blocks.{length-short}
use Rattle.wire.proofs.Lists.{bytes-known}
use Rattle.frame.specs.Syntax.{crc_length}
use Rattle.rnt.proofs.Numbers.{provider-passed}
use Rattle.rnt_walker.specs.declared.RntPlaces.{RntPlaces}
use Rattle.rnt_providers.proofs.Answers.{provider-none, provider-said, provider-never}
use borrow.Author.Rules.{rules}
use Rattle.wire.proofs.Verdicts.{handed-on}
use Rattle.rnt_providers.proofs.provider_at.Goals as goal

pub returns-then-places-number : goal.returns-then-places-number
returns-then-places-number c =
    let pre = c.requires in
    let args = c.args in
    let n = ap (λ (p : RntPlaces). p.providers) pre.0 in
    rw n (provider-none args.s.now args.number pre.1 (omega (arith, n)))

pub overflow_cast-end : goal.overflow_cast-end
overflow_cast-end c =
    let pre = c.requires in
    let args = c.args in
    let t = ap (λ (p : RntPlaces). p.total) pre.0 in
    record { fits = omega (arith, c.payload_end-end.ensures, t, length-short args.s.now 1 (bytes-known args.s.now c.type_inv.s)) }

pub overflow_cast-places : goal.overflow_cast-places
overflow_cast-places c =
    let pre = c.requires in
    let args = c.args in
    let n = ap (λ (p : RntPlaces). p.providers) pre.0 in
    let q = ap (λ (p : RntPlaces). p.provider_at) pre.0 in
    let w = (provider-passed args.s.now pre.1 args.number (omega (arith, n))).within in
    record { fits = omega (arith, q, w, length-short args.s.now 1 (bytes-known args.s.now c.type_inv.s)) }

pub returns : goal.returns
returns c =
    let pre = c.requires in
    let payload-end = c.payload_end-end in
    let args = c.args in
    let read-provider = c.read_provider in
    let n = ap (λ (p : RntPlaces). p.providers) pre.0 in
    let q = ap (λ (p : RntPlaces). p.provider_at) pre.0 in
    let e = payload-end.ensures ∙ ap (λ (p : RntPlaces). p.total - crc_length) pre.0 in
    provider-said args.s.now pre.1 args.number (omega (arith, n)) _ (rw (e, q) at read-provider.ensures) _ _ c.in_ok-provider.was (ap (λ (p : RntPlaces). p.authorities) pre.0)

pub returns-in_err-provider : goal.returns-in_err-provider
returns-in_err-provider c =
    let pre = c.requires in
    let payload-end = c.payload_end-end in
    let args = c.args in
    let read-provider = c.read_provider in
    let n = ap (λ (p : RntPlaces). p.providers) pre.0 in
    let q = ap (λ (p : RntPlaces). p.provider_at) pre.0 in
    let e = payload-end.ensures ∙ ap (λ (p : RntPlaces). p.total - crc_length) pre.0 in
    handed-on _ _ c.from_residual.ensures ∙ absurd (provider-never args.s.now pre.1 args.number (omega (arith, n)) _ (rw (e, q) at read-provider.ensures) _ c.in_err-provider.was)
