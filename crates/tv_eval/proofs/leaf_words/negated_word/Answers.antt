use Rattle.std.proofs.Common.{◌∙◌, refl}
use Rattle.tv_kleene.specs.Kleene.{negation_of}
use Rattle.tv_model.specs.Form.{form_of}
use Rattle.tv_model.specs.Truth.{put}
use Rattle.tv_structure_form.specs.StructureForm.{structure_of}
use Rattle.tv_eval_laws.specs.Value.{value}
use Rattle.tv_eval.specs.Along.{IsWordAlong}
use Rattle.tv_eval.specs.AssignmentForm.{assignment_of}
use Rattle.tv_eval.proofs.AlongWords.{of-mapped}
use Rattle.tv_eval.proofs.leaf_words.negated_word.Goals.{in-Atom, in-IsNew, in-Same}
use Rattle.tv_eval.proofs.leaf_words.negated_word.Goals as goal

pub returns : goal.returns
returns c =
    let here : IsWordAlong c.args.s.now (assignment_of c.args.a.now) c.args.v.0 c.args.chunk (form_of c.args.f.now)
    c.match-f.word = elim c.match-f.branch [
      | in-Atom w ↦ rw (w.word-is, w.in-Atom.is) w.atom_word-word.ensures
      | in-IsNew w ↦ rw (w.word-is, w.in-IsNew.is) w.new_word-word.ensures
      | in-Same w ↦ rw (w.word-is, w.in-Same.is) w.same_word-word.ensures
    ]
    in of-mapped c.args.s.now.size c.args.chunk c.places.result negation_of
    (λ u. value (structure_of c.args.s.now) (put (assignment_of c.args.a.now) c.args.v.0 u) (form_of c.args.f.now))
    c.match-f.word c.not.result here (c.places.ensures.value ∙ (rw c.size.ensures.size refl)) c.not.ensures
