use Rattle.length_field.specs.Lengths.{length_bytes}
use borrow.Author.Rules.{rules}
use Rattle.length_field.proofs.LengthField.to_bytes.Reads as reads
use Rattle.wire.proofs.wide.Reads as wide-reads
use Rattle.length_field.proofs.LengthField.to_bytes.Goals as goal

pub returns : goal.returns
unfolding length_bytes
returns c = cc
