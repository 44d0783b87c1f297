use Rattle.fields_reader.proofs.record.head_of.Goals as goal

pub low-requires : goal.low-requires
low-requires c = tt

pub low-requires-2 : goal.low-requires-2
low-requires-2 c = tt

pub be16-requires : goal.be16-requires
be16-requires c = tt

pub low-requires-3 : goal.low-requires-3
low-requires-3 c = tt

pub be16-requires-2 : goal.be16-requires-2
be16-requires-2 c = tt

pub low-requires-4 : goal.low-requires-4
low-requires-4 c = tt

pub low-requires-5 : goal.low-requires-5
low-requires-5 c = tt

pub low-requires-6 : goal.low-requires-6
low-requires-6 c = tt

pub returns : goal.returns
returns c =
    let word = c.be16.ensures in
    let word2 = c.be16-2.ensures in
    let type = c.low.ensures in
    let reserved = c.low-2.ensures in
    let related = c.low-3.ensures in
    rw (type, reserved, related, c.low-4.ensures, c.low-5.ensures, c.low-6.ensures, word, word2)
