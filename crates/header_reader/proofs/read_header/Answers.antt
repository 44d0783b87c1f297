use Prim.Native.Nat.{◌/◌}
use mathlib.Core.Path.{◌≡◌}
use native.Mathlib.Omega.{arith}
use Rattle.length_field.specs.Lengths.{beside_of}
use borrow.Author.Rules.{rules}
use Rattle.header_reader.proofs.read_header.Goals as goal

pub returns : goal.returns
returns c =
    let args = c.args in
    let low2 = c.low-2 in
    let be16 = c.be16 in
    let low = c.low in
    let syntax-indicator = c.syntax_indicator in
    let bits : beside_of args.b1 0 ≡ args.b1 / 16 = omega arith in
    rw (c.with_reserved.ensures, c.low-3.ensures, low2.ensures, be16.ensures, low.ensures, syntax-indicator.ensures, bits)
