-- Whole traces: what is read is what the grammar says, and what the grammar says is read.
use Rattle.std.proofs.Common.{◌≡◌, ◌+◌, List, [], length, Some, refl, sym, ◌∙◌, subst, arith}
use Rattle.std.specs.Prelude.{codes, ◌==◌}
use Rattle.std.proofs.lemmas.Option.{same_Some, cond_some}
use Rattle.tv_lemmas.proofs.Lists.{none_left}
use Rattle.tv_lex.specs.Token.{SpecToken, HaveOneMeaning}
use Rattle.tv_phrases.specs.Reading.{taken}
use Rattle.tv_phrases.specs.Repeated.{Repeated, begins_with}
use Rattle.tv_phrases.proofs.Values.{bind_some}
use Rattle.tv_phrases.proofs.Repeats.{many_sound, many_read}
use Rattle.tv_trace.specs.Grammar.{IsStep, IsTrace}
use Rattle.tv_trace.specs.Reading.{StepMark, step_at, steps_at, trace_at}
use Rattle.tv_trace.specs.Tree.{StepTree}
use Rattle.tv_trace.proofs.Marks.{IsMarkedStep, AreMarked, step_sound, step_read, trees_of_marks}
use Rattle.tv_trace.proofs.Marks.{marks_of_trees, same_steps}

pub trace_sound : (ts : List SpecToken) (marks : List StepMark) → trace_at ts ≡ Some marks → (steps : List StepTree) × IsTrace ts steps × AreMarked marks steps
unfolding trace_at
trace_sound ts marks e =
    let a = bind_some (steps_at ts) _ marks e
    in let b = cond_some (length a.0.1 == 0) a.0.0 marks a.2
    in let marked : Repeated (begins_with (codes "step")) IsMarkedStep ts a.0.0 a.0.1
    = many_sound (begins_with (codes "step")) step_at IsMarkedStep step_sound (length ts + 1) ts a.0.1 a.0.0 a.1
    in let steps = trees_of_marks (begins_with (codes "step")) ts a.0.1 a.0.0 marked
    in (
      steps.0,
      subst (λ rest. Repeated (begins_with (codes "step")) IsStep ts steps.0 rest) (none_left a.0.1 b.0) steps.1,
      subst (λ ms. AreMarked ms steps.0) b.1 steps.2,
    )

pub trace_read : (ts : List SpecToken) (steps : List StepTree) → IsTrace ts steps → (marks : List StepMark) × (trace_at ts ≡ Some marks) × AreMarked marks steps
unfolding trace_at
trace_read ts steps is =
    let marks = marks_of_trees (begins_with (codes "step")) ts [] steps is
    in let read : steps_at ts ≡ taken marks.0 []
    = (many_read (begins_with (codes "step")) step_at IsMarkedStep step_read marks.0 ts [] marks.1 (length ts + 1) (omega arith)).0
    in (marks.0, rw read refl, marks.2)

pub one_trace : HaveOneMeaning IsTrace
one_trace tokens a b left right =
    let first = trace_read tokens a left
    in let second = trace_read tokens b right
    in let same = same_Some first.0 second.0 (sym first.1 ∙ second.1)
    in same_steps first.0 a b first.2 (subst (λ ms. AreMarked ms b) (sym same) second.2)
