use Rattle.std.proofs.Common.{◌∙◌, ◌+◌, List, get_or, ap, arith}
use Rattle.tv_kleene.specs.declared.K3.{K3}
use Rattle.tv_kleene.specs.declared.K3.TheVariants.{No}
use Rattle.tv_row.specs.BitLaws.{length-values_of}
use Rattle.tv_row.proofs.DrawnRuns.{from_within, from_values}
use Rattle.tv_row.proofs.word.Word.from.Goals as goal

pub invariant_of-result : goal.invariant_of-result
invariant_of-result c = record {
  may_fits = omega arith;
  must_fits = omega arith;
  within = from_within c.self.inside.may c.self.inside.must c.args.place c.from.result c.from-2.result c.self.invariant c.requires
      c.from.ensures c.from-2.ensures;
}

pub returns-clause-values : goal.returns-clause-values
returns-clause-values c = λ i lt.
    from_values c.self.inside.may c.self.inside.must c.args.place c.from.result c.from-2.result c.self.invariant c.requires
    c.from.ensures c.from-2.ensures i lt
    ∙ ap (λ (values : List K3). get_or values (c.args.place + i) No) c.self.view_is

pub returns-clause-long : goal.returns-clause-long
returns-clause-long c = length-values_of c.from.result c.from-2.result
