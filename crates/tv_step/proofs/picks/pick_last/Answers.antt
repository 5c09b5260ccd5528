use Rattle.std.proofs.Common.{[], ◌∷◌, refl, sym, subst, arith}
use Rattle.std.proofs.lemmas.List.Elements.{All-nil}
use Rattle.tv_lemmas.proofs.Options.{IfErr-same}
use Rattle.tv_eval.specs.AssignmentForm.{assignment_of}
use Rattle.tv_eval.proofs.Parts.{like-again, like-itself, put-again, total-again}
use Rattle.tv_model.specs.Truth.{put}
use Rattle.tv_update.proofs.Variables.{picked-with, all-picked}
use Rattle.tv_step.specs.Job.{IsCase, case_program, case_action, case_mode, case_structure}
use Rattle.tv_step.specs.Steps.{IsCauseOfPicks, PicksGive, PicksKeepLimits}
use Rattle.tv_step.proofs.Adding.{adds-none}
use Rattle.tv_step.proofs.Allowing.{row-fails, row-length, row-passes}
use Rattle.tv_step.proofs.Picking.{picks-next, picks-done, limits-next, limits-done, cause-first}
use Rattle.tv_step.proofs.Picking.{picks-none, limits-none, cause-none, picks-skipped, limits-skipped}
use Rattle.tv_step.proofs.Picking.{pick-fails, limit-fails}
use Rattle.tv_step.proofs.picks.pick_last.Goals as goal

pub loop-u-init : goal.loop-u-init
loop-u-init c =
    let a = assignment_of c.args.picks.now
    in record {
      from = omega arith;
      like = like-itself c.args.picks.now c.args.v.0;
      out = adds-none (λ u own. PicksGive (case_program c.args.c.now) (case_mode c.args.c.now)
          (case_action c.args.c.now) (case_structure c.args.c.now) [] (put a c.args.v.0 u) own) c.args.out.now;
      within = All-nil (λ u. PicksKeepLimits (case_action c.args.c.now) (case_structure c.args.c.now) []
          (put a c.args.v.0 u));
      scratch = cc;
    }

pub overflow_add-from : goal.overflow_add-from
overflow_add-from c =
    let count = row-length (case_action c.args.c.now) (case_structure c.args.c.now) (assignment_of c.args.picks.now)
    c.args.v.0 c.precondition_row-row.result c.precondition_row-row.ensures.row
    in omega (arith, c.in-Some.ensures.1, count, c.requires.case.is.table.size)

pub apply_under-requires-clause-case : goal.apply_under-requires-clause-case
apply_under-requires-clause-case c = subst (IsCase c.args.c.now) (sym c.loop-u.invariant.scratch) c.requires.case

pub apply_under-requires-clause-picks : goal.apply_under-requires-clause-picks
apply_under-requires-clause-picks c =
    let count = row-length (case_action c.args.c.now) (case_structure c.args.c.now) (assignment_of c.args.picks.now)
    c.args.v.0 c.precondition_row-row.result c.precondition_row-row.ensures.row
    in all-picked (case_action c.args.c.now).picks [] (case_structure c.args.c.now).size c.set.new.self refl
    (picked-with (case_action c.args.c.now).picks [] (case_structure c.args.c.now).size c.args.v.0 c.in-Some.u
    c.args.picks.now c.set.new.self
    (put-again c.args.picks.now c.loop-u.here c.set.new.self c.args.v.0 c.in-Some.u c.loop-u.invariant.like
    c.set.ensures.places).places
    (omega (arith, c.in-Some.ensures.1, count)) c.requires.picks)

pub apply_under-requires-clause-passed : goal.apply_under-requires-clause-passed
apply_under-requires-clause-passed c =
    let count = row-length (case_action c.args.c.now) (case_structure c.args.c.now) (assignment_of c.args.picks.now)
    c.args.v.0 c.precondition_row-row.result c.precondition_row-row.ensures.row
    in row-passes (case_action c.args.c.now) (case_structure c.args.c.now) (assignment_of c.args.picks.now)
    (assignment_of c.set.new.self) c.args.v.0 c.in-Some.u c.precondition_row-row.result
    c.precondition_row-row.ensures.row (omega (arith, c.in-Some.ensures.1, count))
    (total-again c.args.picks.now c.loop-u.here c.set.new.self c.args.v.0 c.in-Some.u c.loop-u.invariant.like
    c.set.ensures.places) c.in-Some.ensures.2

pub returns-in_err-apply_under-clause-cause : goal.returns-in_err-apply_under-clause-cause
returns-in_err-apply_under-clause-cause c =
    let action = case_action c.args.c.now
    in let s = case_structure c.args.c.now
    in let a = assignment_of c.args.picks.now
    in let b = assignment_of c.set.new.self
    in let e = c.in_err-apply_under.field-0.0
    in let count = row-length action s a c.args.v.0 c.precondition_row-row.result c.precondition_row-row.ensures.row
    in IfErr-same (IsCauseOfPicks action s (c.args.v.0 ∷ []) a) c.from_residual.result e c.from_residual.ensures.1
    (cause-first action s c.args.v.0 [] a b c.in-Some.u e
    (total-again c.args.picks.now c.loop-u.here c.set.new.self c.args.v.0 c.in-Some.u c.loop-u.invariant.like
    c.set.ensures.places)
    (omega (arith, c.in-Some.ensures.1, count))
    (cause-none action s [] b e refl c.in_err-apply_under.ensures.cause))

pub loop-u-preserved : goal.loop-u-preserved
loop-u-preserved c =
    let p = case_program c.args.c.now
    in let mode = case_mode c.args.c.now
    in let action = case_action c.args.c.now
    in let s = case_structure c.args.c.now
    in let v = c.args.v.0
    in let u = c.in-Some.u
    in let a = assignment_of c.args.picks.now
    in let b = assignment_of c.set.new.self
    in let row = c.precondition_row-row.result
    in let is = c.precondition_row-row.ensures.row
    in let count = row-length action s a v row is
    in let same = total-again c.args.picks.now c.loop-u.here c.set.new.self v u c.loop-u.invariant.like
    c.set.ensures.places
    in record {
      from = omega (arith, c.in-Some.ensures.1);
      like = like-again c.args.picks.now c.loop-u.here c.set.new.self v u c.loop-u.invariant.like
          c.set.ensures.places;
      out = picks-next p mode action s v [] a b u c.args.out.now c.loop-u.out c.apply_under.new.out same
          (picks-skipped (λ w own. PicksGive p mode action s [] (put a v w) own) c.loop-u.from u c.args.out.now
          c.loop-u.out c.in-Some.ensures.0
          (λ k from lt. pick-fails p mode action s (put a v k)
          (row-fails action s a v k row is (omega (arith, lt, c.in-Some.ensures.1, count))
          (c.in-Some.ensures.3 k from lt))) c.loop-u.invariant.out)
          (picks-none p mode action s [] b c.loop-u.out c.apply_under.new.out refl c.in_ok-apply_under.ensures.out);
      within = limits-next action s v [] a b u same
          (limits-skipped (λ w. PicksKeepLimits action s [] (put a v w)) c.loop-u.from u
          (λ k from lt. limit-fails action s (put a v k)
          (row-fails action s a v k row is (omega (arith, lt, c.in-Some.ensures.1, count))
          (c.in-Some.ensures.3 k from lt))) c.loop-u.invariant.within)
          (limits-none action s [] b refl c.in_ok-apply_under.ensures.within);
      scratch = cc;
    }

pub returns-clause-out : goal.returns-clause-out
returns-clause-out c =
    let p = case_program c.args.c.now
    in let mode = case_mode c.args.c.now
    in let action = case_action c.args.c.now
    in let s = case_structure c.args.c.now
    in let v = c.args.v.0
    in let a = assignment_of c.args.picks.now
    in let row = c.precondition_row-row.result
    in let is = c.precondition_row-row.ensures.row
    in let count = row-length action s a v row is
    in picks-done p mode action s v [] a s.size c.args.out.now c.loop-u.out refl
    (picks-skipped (λ w own. PicksGive p mode action s [] (put a v w) own) c.loop-u.from s.size c.args.out.now
    c.loop-u.out (omega (arith, c.loop-u.invariant.from, count))
    (λ k from lt. pick-fails p mode action s (put a v k)
    (row-fails action s a v k row is lt (c.in_default.ensures k from (omega (arith, lt, count)))))
    c.loop-u.invariant.out)

pub returns-clause-within : goal.returns-clause-within
returns-clause-within c =
    let action = case_action c.args.c.now
    in let s = case_structure c.args.c.now
    in let v = c.args.v.0
    in let a = assignment_of c.args.picks.now
    in let row = c.precondition_row-row.result
    in let is = c.precondition_row-row.ensures.row
    in let count = row-length action s a v row is
    in limits-done action s v [] a s.size refl
    (limits-skipped (λ w. PicksKeepLimits action s [] (put a v w)) c.loop-u.from s.size
    (λ k from lt. limit-fails action s (put a v k)
    (row-fails action s a v k row is lt (c.in_default.ensures k from (omega (arith, lt, count)))))
    c.loop-u.invariant.within)
