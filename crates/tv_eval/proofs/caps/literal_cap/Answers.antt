use Rattle.std.proofs.Common.{◌∙◌, refl}
use Rattle.tv_model.specs.Form.{form_of}
use Rattle.tv_model.specs.Truth.{put}
use Rattle.tv_structure_form.specs.StructureForm.{structure_of}
use Rattle.tv_eval_laws.specs.Value.{value}
use Rattle.tv_eval.specs.AssignmentForm.{assignment_of}
use Rattle.tv_eval.specs.Caps.{IsRuledOut}
use Rattle.tv_eval.proofs.Capping.{caps-none, caps-values, out-seen}
use Rattle.tv_eval.proofs.caps.literal_cap.Goals as goal

pub returns-in-Some : goal.returns-in-Some
returns-in-Some c =
    caps-values c.args.s.now.size c.args.chunk c.places.result c.args.q
    (λ u. value (structure_of c.args.s.now) (put (assignment_of c.args.a.now) c.args.w.0 u) (form_of c.args.f.now))
    (IsRuledOut c.args.s.now (assignment_of c.args.a.now) c.args.hidden.now c.args.w.0 c.args.q (form_of c.args.f.now))
    c.in-Some.word c.turned_word.result c.in-Some.ensures
    (c.places.ensures.value ∙ (rw c.size.ensures.size refl)) c.turned_word.ensures
    (λ u. out-seen c.args.s.now (assignment_of c.args.a.now) c.args.hidden.now c.args.w.0 u c.args.q
    (form_of c.args.f.now) c.requires.without)

pub returns-in-None : goal.returns-in-None
returns-in-None c =
    caps-none c.args.s.now.size c.args.chunk
    (IsRuledOut c.args.s.now (assignment_of c.args.a.now) c.args.hidden.now c.args.w.0 c.args.q (form_of c.args.f.now))
    c.of.result c.of.ensures
