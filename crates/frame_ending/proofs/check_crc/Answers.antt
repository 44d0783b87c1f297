use mathlib.Core.Path.{sym, ◌∙◌}
use native.Mathlib.Omega.{arith}
use lib.Seq.{length-take-le}
use Rattle.frame.specs.Reading.{computed_at}
use Rattle.frame.proofs.Endings.{crc-none, crc-room, crc-wrong, crc-right}
use borrow.Author.Rules.{rules}
use Rattle.frame_ending.proofs.check_crc.Goals as goal

pub returns-then-s-lt-CRC_LENGTH : goal.returns-then-s-lt-CRC_LENGTH
returns-then-s-lt-CRC_LENGTH c =
    let args = c.args in
    c.wrong.ensures ∙ sym (crc-none args.s.now args.end (omega arith))

pub returns-then-s-end : goal.returns-then-s-end
returns-then-s-end c =
    let args = c.args in
    c.wrong-then-s-end.ensures ∙ sym (crc-none args.s.now args.end (omega arith))

pub slice_bounds-crc32-end : goal.slice_bounds-crc32-end
slice_bounds-crc32-end c = sym (length-take-le _ _ (omega arith))

pub returns-then-stored-computed : goal.returns-then-stored-computed
unfolding computed_at
returns-then-stored-computed c =
    let args = c.args in
    let be32 = c.be32-stored in
    let crc32 = c.crc32-computed in
    c.wrong-then-stored-computed.ensures ∙ crc-wrong args.s.now args.end _ _ be32.ensures crc32.ensures c.if-stored-computed.true ∙ sym (crc-room args.s.now args.end (omega arith))

pub returns : goal.returns
unfolding computed_at
returns c =
    let args = c.args in
    let be32 = c.be32-stored in
    crc-right args.s.now args.end _ _ be32.ensures c.crc32-computed.ensures c.if-stored-computed.false ∙ sym (crc-room args.s.now args.end (omega arith))
