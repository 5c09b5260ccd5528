use Rattle.std.proofs.Common.{◌++◌, ◌∙◌, ap, sym}
use Rattle.std.proofs.lemmas.List.{append-nil}
use Rattle.tv_tvs.proofs.PredLines.{no_line}
use Rattle.tv_tvs.proofs.write.write_unary.Goals as goal

pub returns-then-is_nowhere : goal.returns-then-is_nowhere
returns-then-is_nowhere c =
    let none = no_line c.args.s.now c.args.p.0 c.args.name.now (c.is_nowhere.ensures c.if-is_nowhere.true)
    in sym (ap (λ t. c.args.out.now ++ t) none ∙ append-nil c.args.out.now)
