use Rattle.std.proofs.Common.{◌≡◌, IsTrue, ap, subst}
use Rattle.tv_eval.specs.Bound.{bound_room}
use Rattle.tv_model.specs.Form.{form_of, vars_of}
use Rattle.tv_model.specs.Program.{KDefined, kind_of}
use Rattle.tv_two_valued.specs.TwoValued.{heap_of}
use Rattle.tv_replay_judge.specs.Same.{CanCompareKind}
use Rattle.tv_replay_judge.proofs.Compared.{as-defined}
use Rattle.tv_replay_judge.proofs.Preds.{defined-at}
use Rattle.tv_replay_judge.proofs.defined.is_as_defined.Goals as goal

pub returns-in-Defined-clause-same : goal.returns-in-Defined-clause-same
returns-in-Defined-clause-same c =
    let s = c.args.s.now
    in let q = c.args.p.0
    in let vars = vars_of c.in-Defined.vars
    in let body = form_of c.in-Defined.body
    in let room = bound_room c.args.evaluator.now
    in let kind : kind_of c.args.pred.now.kind ≡ KDefined vars body = ap kind_of c.in-Defined.is
    in let can = subst (CanCompareKind s room q c.args.pred.now.arity) kind c.requires.can
    in let defined = as-defined s room q vars body can.0
    in let same = c.has_values.ensures.same
    in defined-at (IsTrue c.has_values.result) (heap_of s) q c.args.pred.now.arity (kind_of c.args.pred.now.kind) vars body kind can.1
    (λ t. defined.0 (same.0 t), λ m. same.1 (defined.1 m))
