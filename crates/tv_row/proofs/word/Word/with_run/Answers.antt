use Rattle.std.proofs.Common.{◌∙◌, ◌+◌, List, get_or, ap, arith}
use Rattle.tv_kleene.specs.declared.K3.{K3}
use Rattle.tv_kleene.specs.declared.K3.TheVariants.{No}
use Rattle.tv_row.specs.BitLaws.{length-values_of}
use Rattle.tv_row.proofs.DrawnRuns.{run_taken, run_kept, run_within}
use Rattle.tv_row.proofs.word.Word.with_run.Goals as goal

pub invariant_of-result : goal.invariant_of-result
invariant_of-result c = record {
  may_fits = omega arith;
  must_fits = omega arith;
  within = run_within c.self.inside.may c.self.inside.must c.other.inside.may c.other.inside.must c.with_bits.result c.with_bits-2.result c.args.to
      c.args.from c.args.count c.self.invariant c.requires.to c.requires.from c.with_bits.ensures.taken c.with_bits.ensures.kept
      c.with_bits-2.ensures.taken c.with_bits-2.ensures.kept c.other.invariant;
}

pub returns-clause-taken : goal.returns-clause-taken
returns-clause-taken c =
    λ i lt.
    run_taken c.self.inside.may c.self.inside.must c.other.inside.may c.other.inside.must c.with_bits.result c.with_bits-2.result c.args.to
    c.args.from c.args.count c.self.invariant c.requires.to c.requires.from c.with_bits.ensures.taken c.with_bits.ensures.kept
    c.with_bits-2.ensures.taken c.with_bits-2.ensures.kept i lt
    ∙ ap (λ (values : List K3). get_or values (c.args.from + i) No) c.other.view_is

pub returns-clause-kept : goal.returns-clause-kept
returns-clause-kept c =
    λ j out.
    run_kept c.self.inside.may c.self.inside.must c.other.inside.may c.other.inside.must c.with_bits.result c.with_bits-2.result c.args.to
    c.args.from c.args.count c.self.invariant c.requires.to c.requires.from c.with_bits.ensures.taken c.with_bits.ensures.kept
    c.with_bits-2.ensures.taken c.with_bits-2.ensures.kept j out
    ∙ ap (λ (values : List K3). get_or values j No) c.self.view_is

pub returns-clause-long : goal.returns-clause-long
returns-clause-long c = length-values_of c.with_bits.result c.with_bits-2.result
