use Rattle.tv_row.proofs.HalfLaws.{halves_hold, halves_are}
use Rattle.tv_row.proofs.half.HalfRow.of.Goals as goal

pub invariant_of-result : goal.invariant_of-result
invariant_of-result c =
    rw (c.possible_bits.ensures, c.possible_bits-2.ensures, c.possible_bits-3.ensures, c.possible_bits-4.ensures)
    (halves_hold c.args.row.now c.whole_word.result c.whole_word-2.result c.whole_word-3.result c.whole_word-4.result c.size.ensures.bound
    c.requires c.whole_word.ensures.long c.whole_word-2.ensures.long c.whole_word-3.ensures.long c.whole_word-4.ensures.long
    c.whole_word.ensures.values c.whole_word-2.ensures.values c.whole_word-3.ensures.values c.whole_word-4.ensures.values
    c.size.result c.size.ensures.size)

pub returns : goal.returns
returns c =
    rw (c.possible_bits.ensures, c.possible_bits-2.ensures, c.possible_bits-3.ensures, c.possible_bits-4.ensures)
    (halves_are c.args.row.now c.whole_word.result c.whole_word-2.result c.whole_word-3.result c.whole_word-4.result c.size.ensures.bound
    c.requires c.whole_word.ensures.long c.whole_word-2.ensures.long c.whole_word-3.ensures.long c.whole_word-4.ensures.long
    c.whole_word.ensures.values c.whole_word-2.ensures.values c.whole_word-3.ensures.values c.whole_word-4.ensures.values
    c.size.result c.size.ensures.size)
