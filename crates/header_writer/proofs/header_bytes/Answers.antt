use Prim.Native.Nat.{◌+◌, ◌*◌, ◌%◌}
use mathlib.Core.Path.{◌≡◌}
use native.Mathlib.Omega.{arith}
use Rattle.length_field.specs.Lengths.{widest_beside, length_bytes}
use Rattle.section_header.specs.Syntax.{first_bits, header_bytes}
use Rattle.section_header.specs.Checks.{narrowed}
use borrow.Author.Rules.{rules}
use Rattle.header_writer.proofs.header_bytes.Goals as goal

pub returns : goal.returns
unfolding header_bytes length_bytes
returns c =
    let flag = c.flag-syntax in
    let flag2 = c.flag-private in
    let low = c.low-reserved in
    let args = c.args in
    let to-bytes = c.to_bytes-length in
    let first : (flag.result * 8 + flag2.result * 4 + low.result) % (widest_beside + 1) ≡ first_bits (narrowed args.header) = rw (flag.ensures.0, flag2.ensures.0, low.ensures) (omega (arith, flag.ensures.1, flag2.ensures.1)) in
    rw (c.version_byte.ensures, c.to_be16-extension.ensures, to-bytes.ensures, first)
