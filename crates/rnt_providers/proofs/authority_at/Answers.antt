use Prim.Native.Nat.{◌-◌}
use mathlib.Core.Path.{◌≡◌, ap, ◌∙◌}
use native.Mathlib.Omega.{arith}
use Rattle.length_field.proofs.Blocks.{length-short}
use Rattle.wire.proofs.Lists.{bytes-known}
use Rattle.frame.specs.Syntax.{crc_length}
use Rattle.rnt.proofs.Numbers.{authority-within}
use Rattle.rnt_walker.specs.declared.RntPlaces.{RntPlaces}
use Rattle.rnt_providers.proofs.Answers.{rows_pass, authorities-are, authority-stands, authority-no-provider, authority-none, authority-said, authority-never}
use borrow.Author.Rules.{rules}
use Rattle.wire.proofs.Verdicts.{handed-on}
use Rattle.rnt_providers.proofs.authority_at.Goals as goal

pub returns-then-places-number : goal.returns-then-places-number
returns-then-places-number c =
    let pre = c.requires in
    let args = c.args in
    let n = ap (λ (p : RntPlaces). p.providers) pre.0 in
    rw n (authority-no-provider args.s.now args.number args.authority pre.1 (omega (arith, n)))

pub returns-then-places-authority : goal.returns-then-places-authority
returns-then-places-authority c =
    let args = c.args in
    let pre = c.requires in
    let s = args.s.now in
    let n = ap (λ (p : RntPlaces). p.providers) pre.0 in
    let m = ap (λ (p : RntPlaces). p.authorities) pre.0 ∙ authorities-are s pre.1 args.number (omega (arith, n)) in
    rw m (authority-none s args.number args.authority (rows_pass s args.number pre.1 (omega (arith, n))) (omega (arith, m)))

pub overflow_cast-end : goal.overflow_cast-end
overflow_cast-end c =
    let pre = c.requires in
    let args = c.args in
    let t = ap (λ (p : RntPlaces). p.total) pre.0 in
    record { fits = omega (arith, c.payload_end-end.ensures, t, length-short args.s.now 1 (bytes-known args.s.now c.type_inv.s)) }

pub overflow_cast-places : goal.overflow_cast-places
overflow_cast-places c =
    let args = c.args in
    let pre = c.requires in
    let s = args.s.now in
    let n = ap (λ (p : RntPlaces). p.providers) pre.0 in
    let m = ap (λ (p : RntPlaces). p.authorities) pre.0 ∙ authorities-are s pre.1 args.number (omega (arith, n)) in
    let q = ap (λ (p : RntPlaces). p.authority_at) pre.0 ∙ authority-stands s pre.1 args.number (omega (arith, n)) args.authority in
    let w = authority-within s pre.1 args.number (omega (arith, n)) args.authority (omega (arith, m)) in
    record { fits = omega (arith, q, w, length-short s 1 (bytes-known s c.type_inv.s)) }

pub returns : goal.returns
returns c =
    let args = c.args in
    let pre = c.requires in
    let payload-end = c.payload_end-end in
    let read-authority = c.read_authority in
    let s = args.s.now in
    let n = ap (λ (p : RntPlaces). p.providers) pre.0 in
    let m = ap (λ (p : RntPlaces). p.authorities) pre.0 ∙ authorities-are s pre.1 args.number (omega (arith, n)) in
    let q = ap (λ (p : RntPlaces). p.authority_at) pre.0 ∙ authority-stands s pre.1 args.number (omega (arith, n)) args.authority in
    let e = payload-end.ensures ∙ ap (λ (p : RntPlaces). p.total - crc_length) pre.0 in
    authority-said s pre.1 args.number (omega (arith, n)) args.authority (omega (arith, m)) _ (rw (e, q) at read-authority.ensures) _ _ c.in_ok-found.was

pub returns-in_err-found : goal.returns-in_err-found
returns-in_err-found c =
    let args = c.args in
    let pre = c.requires in
    let payload-end = c.payload_end-end in
    let read-authority = c.read_authority in
    let s = args.s.now in
    let n = ap (λ (p : RntPlaces). p.providers) pre.0 in
    let m = ap (λ (p : RntPlaces). p.authorities) pre.0 ∙ authorities-are s pre.1 args.number (omega (arith, n)) in
    let q = ap (λ (p : RntPlaces). p.authority_at) pre.0 ∙ authority-stands s pre.1 args.number (omega (arith, n)) args.authority in
    let e = payload-end.ensures ∙ ap (λ (p : RntPlaces). p.total - crc_length) pre.0 in
    handed-on _ _ c.from_residual.ensures ∙ absurd (authority-never s pre.1 args.number (omega (arith, n)) args.authority (omega (arith, m)) _ (rw (e, q) at read-authority.ensures) _ c.in_err-found.was)
