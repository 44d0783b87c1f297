use mathlib.Core.Path.{sym}
use native.Mathlib.Omega.{arith}
use lib.Seq.{length-take-le}
use Rattle.frame.proofs.Endings.{sealed-put, sealed-none}
use borrow.Author.Rules.{rules}
use Rattle.frame_ending.proofs.seal.Goals as goal

pub returns-then-b-lt-CRC_LENGTH : goal.returns-then-b-lt-CRC_LENGTH
returns-then-b-lt-CRC_LENGTH c =
    let args = c.args in
    let both = sealed-none args.b.now args.end (omega arith) in
    record { value = both.0; b_after = both.1 }

pub returns-then-b-end : goal.returns-then-b-end
returns-then-b-end c =
    let args = c.args in
    let both = sealed-none args.b.now args.end (omega arith) in
    record { value = both.0; b_after = both.1 }

pub slice_bounds-crc32-end-2 : goal.slice_bounds-crc32-end-2
slice_bounds-crc32-end-2 c = sym (length-take-le _ _ (omega arith))

pub returns : goal.returns
returns c =
    let args = c.args in
    let crc32 = c.crc32-crc in
    let to-be32 = c.to_be32-bytes in
    let both = sealed-put args.b.now args.end _ _ _ (omega arith) crc32.ensures to-be32.ensures c.put_at.ensures.b_after in
    record { value = both.0; b_after = both.1 }
