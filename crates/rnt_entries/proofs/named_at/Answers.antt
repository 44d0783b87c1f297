use mathlib.Core.Path.{◌≡◌, ap}
use native.Mathlib.Omega.{arith}
use borrow.Author.Rules.{rules}
use Rattle.rnt_entries.proofs.named_at.Goals as goal

pub returns : goal.returns
returns c =
    let wide = c.wide-size in
    rw (c.of_bytes-field.ensures, wide.ensures.0)
