use Rattle.std.proofs.Common.{◌≡◌, ◌∙◌, sym, ap, subst}
use Rattle.tv_coerce_members.specs.Members.{numbers_of}
use Rattle.tv_eval.specs.AssignmentForm.{assignment_of}
use Rattle.tv_model.specs.Form.{Form, form_of, FAnd}
use Rattle.tv_model.specs.Truth.{put}
use Rattle.tv_two_valued.specs.TwoValued.{heap_of}
use Rattle.tv_replay_judge.specs.Trying.{IsRowOf, IsRuledOut}
use Rattle.tv_replay_judge.proofs.Passed.{and-row}
use Rattle.tv_replay_judge.proofs.trial.+body_row.Goals as goal

pub returns-in-And-clause-row : goal.returns-in-And-clause-row
returns-in-And-clause-row t c =
    let s = c.args.s.now
    in let rest = numbers_of c.args.turn.now.rest.now
    in let a = assignment_of c.args.turn.now.a.now
    in let g = form_of c.deref.result.now
    in let h = form_of c.deref-in-And.result.now
    in let form : form_of c.args.f.now ≡ FAnd g h
    = ap form_of c.in-And.is ∙ ap (λ (x : Form). FAnd x (form_of c.in-And.h.value)) (ap form_of (sym c.deref.ensures))
    ∙ ap (λ (x : Form). FAnd g x) (ap form_of (sym c.deref-in-And.ensures))
    in subst (λ f. IsRowOf s.size (λ u. IsRuledOut (heap_of s) rest (put a c.args.turn.now.v.0 u) f) c.and.result)
    (sym form)
    (subst (IsRowOf s.size (λ u. IsRuledOut (heap_of s) rest (put a c.args.turn.now.v.0 u) (FAnd g h))) (sym
    c.and.ensures)
    (and-row s rest a c.args.turn.now.v.0 g h c.body_row-left.result c.body_row-right.result
    c.body_row-left.ensures.row c.body_row-right.ensures.row))
