use mathlib.Core.Path.{◌≡◌, sym, ap, ◌∙◌}
use native.Mathlib.Omega.{arith}
use Rattle.wire.proofs.Verdicts.{reached-at, reached-refused, handed-on}
use Rattle.rnt.proofs.Names.{named-passed}
use Rattle.rnt_entries.proofs.EntryLaws.{authority-found, authority-not}
use borrow.Author.Rules.{rules}
use Rattle.rnt_entries.proofs.read_authority.Goals as goal

pub named_at-named-requires : goal.named_at-named-requires
named_at-named-requires c =
    let past-authority = c.past_authority in
    let args = c.args in
    let g = reached-at _ _ _ (sym past-authority.ensures ∙ c.in_ok-next.was) in
    omega (arith, named-passed _ _ args.s.now _ _ g.0)

pub overflow_cast-result-3 : goal.overflow_cast-result-3
overflow_cast-result-3 c =
    let past-authority = c.past_authority in
    let args = c.args in
    let g = reached-at _ _ _ (sym past-authority.ensures ∙ c.in_ok-next.was) in
    record { fits = omega (arith, g.1, named-passed _ _ args.s.now _ _ g.0) }

pub returns : goal.returns
returns c =
    let past-authority = c.past_authority in
    let named-at = c.named_at-named in
    let args = c.args in
    let g = reached-at _ _ _ (sym past-authority.ensures ∙ c.in_ok-next.was) in
    rw named-at.ensures (authority-found args.s.now args.end args.at _ g.0 g.1)

pub returns-in_err-next : goal.returns-in_err-next
returns-in_err-next c =
    let args = c.args in
    let past-authority = c.past_authority in
    handed-on _ _ c.from_residual.ensures ∙ authority-not args.s.now args.end args.at _ (reached-refused _ _ _ (sym past-authority.ensures ∙ c.in_err-next.was))
