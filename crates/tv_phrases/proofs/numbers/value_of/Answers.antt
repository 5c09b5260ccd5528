use Rattle.std.proofs.Common.{◌<◌, ◌^◌, length, subst, sym}
use Rattle.std.specs.Option.{SomeIff}
use Rattle.std.specs.Str.Parse.{digits_value, ParsesUnsigned}
use Rattle.tv_phrases.proofs.Numerals.{parsed, digits_are_text}
use Rattle.tv_phrases.proofs.numbers.value_of.Goals as goal

pub returns-in-Ok : goal.returns-in-Ok
returns-in-Ok c =
    let w = c.args.digits.now
    in let told = subst (λ v. ParsesUnsigned 32 10 v c.parse.result) c.in-Ok.ensures.cases.0 c.parse.ensures.value.0
    in subst (λ o. SomeIff o ((0 < length w) × (digits_value 10 w < 2 ^ 32)) (digits_value 10 w)) (sym c.ok.ensures.value) (parsed w c.parse.result c.requires told)

pub returns-in-Err : goal.returns-in-Err
returns-in-Err c = λ some. c.in-Err.ensures.cases.0 (digits_are_text c.args.digits.now c.requires)
