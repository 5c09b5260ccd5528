use Rattle.std.proofs.Common.{◌≡◌, ◌∙◌, sym, ap, subst}
use Rattle.tv_coerce_members.specs.Members.{numbers_of}
use Rattle.tv_eval.specs.Along.{values_along}
use Rattle.tv_eval.specs.AssignmentForm.{assignment_of}
use Rattle.tv_eval.specs.Bound.{bound_room}
use Rattle.tv_eval.specs.Formulas.{AreAssigned}
use Rattle.tv_model.specs.Form.{form_of, FExists}
use Rattle.tv_model.specs.Truth.{put}
use Rattle.tv_two_valued.specs.TwoValued.{heap_of}
use Rattle.tv_replay_judge.specs.Trying.{IsRowOf, IsRuledOut}
use Rattle.tv_replay_judge.proofs.Passed.{row-assigned, row-out}
use Rattle.tv_replay_judge.proofs.trial.row_whole.Goals as goal

pub row-requires-clause-assigned : goal.row-requires-clause-assigned
row-requires-clause-assigned c =
    let s = c.args.s.now
    in let f = form_of c.args.f.now
    in subst (λ t. AreAssigned t.size c.args.turn.now.a.now (FExists c.args.turn.now.v.0 f)) (sym c.requires.can.1.0)
    (row-assigned s (bound_room c.args.evaluator.now) c.args.turn.now.a.now c.args.turn.now.v.0 (numbers_of
    c.args.turn.now.rest.now) f c.requires.can.1.1 c.requires.can.1.2
    (c.is_last.ensures c.if-is_last.true))

pub returns-then-is_last-clause-row : goal.returns-then-is_last-clause-row
returns-then-is_last-clause-row c =
    let s = c.args.s.now
    in let f = form_of c.args.f.now
    in let a = assignment_of c.args.turn.now.a.now
    in let rest = numbers_of c.args.turn.now.rest.now
    in let read : c.row.result ≡ values_along s a c.args.turn.now.v.0 f = c.row.ensures.exact ∙ ap (λ t.
    values_along t a c.args.turn.now.v.0 f) c.requires.can.1.0
    in subst (IsRowOf s.size (λ u. IsRuledOut (heap_of s) rest (put a c.args.turn.now.v.0 u) f)) (sym read)
    (row-out s (bound_room c.args.evaluator.now) c.args.turn.now.a.now c.args.turn.now.v.0 rest f c.requires.can.1.1
    c.requires.can.1.2
    (c.is_last.ensures c.if-is_last.true))
