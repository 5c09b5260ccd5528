use Rattle.std.proofs.Common.{Some, ap, sym, ◌∙◌, arith}
use Rattle.std.proofs.lemmas.Option.{slice_get-get_or}
use Rattle.tv_explain.proofs.answers.number_of.Goals as goal

pub returns-then-is_name-clause-some : goal.returns-then-is_name-clause-some
returns-then-is_name-clause-some c =
    slice_get-get_or c.args.names.now c.loop-number.number c.index-names-number.result
    (omega (arith, c.loop-number-test.true, c.loop-number.auto.number-end))
    ∙ ap Some (sym c.index-names-number.is ∙ c.is_name.ensures.0 c.if-is_name.true)
