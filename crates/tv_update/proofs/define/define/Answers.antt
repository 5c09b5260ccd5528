use Rattle.std.proofs.Common.{◌≡◌}
use Rattle.std.proofs.lemmas.Result.{on_ok_weaker}
use Rattle.tv_model.specs.declared.program.Kind.TheVariants.{Core, Defined}
use Rattle.tv_model.specs.Form.{form_of, vars_of}
use Rattle.tv_model.specs.Program.{KDefined, program_of}
use Rattle.tv_update_laws.specs.Applied.{kind_at}
use Rattle.tv_update.proofs.Defines.{can_define, defined_arity, is_evaluated, kind_there, core_evaluated}
use Rattle.tv_update.proofs.RowLaws.{few_vars}
use Rattle.tv_update.proofs.define.define.Goals as goal

pub evaluate-requires-clause-arity : goal.evaluate-requires-clause-arity
evaluate-requires-clause-arity c =
    let k : kind_at (program_of c.args.program.now) c.args.p.0 ≡ KDefined (vars_of c.in-Defined.vars)
    (form_of c.in-Defined.body)
    = kind_there c.args.program.now c.as_slice.result.now c.args.p.0 c.index-as_slice-p.result
    (Defined c.in-Defined.vars c.in-Defined.body)
    c.as_slice.ensures c.requires.pred c.in-Defined.is
    in defined_arity c.args.program.now c.requires.valid c.args.p.0 (vars_of c.in-Defined.vars)
    (form_of c.in-Defined.body) k c.args.t.now c.requires.over

pub evaluate-requires-clause-can : goal.evaluate-requires-clause-can
evaluate-requires-clause-can c =
    let k : kind_at (program_of c.args.program.now) c.args.p.0 ≡ KDefined (vars_of c.in-Defined.vars)
    (form_of c.in-Defined.body)
    = kind_there c.args.program.now c.as_slice.result.now c.args.p.0 c.index-as_slice-p.result
    (Defined c.in-Defined.vars c.in-Defined.body)
    c.as_slice.ensures c.requires.pred c.in-Defined.is
    in can_define c.args.program.now c.requires.valid c.args.p.0 (vars_of c.in-Defined.vars)
    (form_of c.in-Defined.body) k c.args.t.now
    c.requires.over c.size.ensures.kept.table.size c.args.scratch.now c.requires.scratch

pub returns-in-Core-clause-evaluated : goal.returns-in-Core-clause-evaluated
returns-in-Core-clause-evaluated c =
    core_evaluated (program_of c.args.program.now) c.args.p.0
    (kind_there c.args.program.now c.as_slice.result.now c.args.p.0 c.index-as_slice-p.result Core
    c.as_slice.ensures c.requires.pred c.in-Core.is)
    c.args.t.now

pub returns-in-Defined-clause-evaluated : goal.returns-in-Defined-clause-evaluated
returns-in-Defined-clause-evaluated c =
    let k : kind_at (program_of c.args.program.now) c.args.p.0 ≡ KDefined (vars_of c.in-Defined.vars)
    (form_of c.in-Defined.body)
    = kind_there c.args.program.now c.as_slice.result.now c.args.p.0 c.index-as_slice-p.result
    (Defined c.in-Defined.vars c.in-Defined.body)
    c.as_slice.ensures c.requires.pred c.in-Defined.is
    in on_ok_weaker c.evaluate.result
    (is_evaluated (program_of c.args.program.now) c.args.p.0 (vars_of c.in-Defined.vars)
    (form_of c.in-Defined.body) k (few_vars c.in-Defined.vars)
    c.args.t.now c.evaluate.new.t
    (defined_arity c.args.program.now c.requires.valid c.args.p.0 (vars_of c.in-Defined.vars)
    (form_of c.in-Defined.body) k c.args.t.now c.requires.over))
    c.evaluate.ensures.rows
