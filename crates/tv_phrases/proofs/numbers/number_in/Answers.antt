use Rattle.std.proofs.Common.{sym}
use Rattle.tv_phrases.proofs.Numerals.{other_byte, zero_in_front, value_written}
use Rattle.tv_phrases.proofs.numbers.number_in.Goals as goal

pub returns-then-not-are_digits : goal.returns-then-not-are_digits
returns-then-not-are_digits c = sym (other_byte c.args.word.now (sym c.if-not-are_digits.ensures))

pub returns-then-is_padded : goal.returns-then-is_padded
returns-then-is_padded c = sym (zero_in_front c.args.word.now (sym c.if-is_padded.ensures))

pub returns : goal.returns
returns c = value_written c.args.word.now c.value_of.result (sym c.if-not-are_digits.ensures) (sym c.if-is_padded.ensures) c.value_of.ensures
