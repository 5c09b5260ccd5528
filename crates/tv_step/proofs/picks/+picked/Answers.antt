use Rattle.std.proofs.Common.{◌≡◌, ◌∙◌, suc, true, eqb-true, Bool, List, [], ◌∷◌, length, get_or}
use Rattle.std.proofs.Common.{refl, ap, sym, subst, arith, All}
use Rattle.std.specs.List.{between}
use Rattle.std.specs.Prelude.{◌==◌, IfErr, OnOk}
use Rattle.std.proofs.lemmas.List.{length-map}
use Rattle.std.proofs.lemmas.List.Elements.{All-head, All-nil, All-tail}
use Rattle.tv_lemmas.proofs.Options.{IfErr-weaker, IfErr-same, OnOk-weaker}
use Rattle.tv_model.proofs.Parts.{no-picks, first-pick}
use Rattle.tv_eval.specs.AssignmentForm.{assignment_of}
use Rattle.tv_eval.proofs.Parts.{like-again, like-itself, put-again, total-again}
use Rattle.tv_model.specs.declared.formula.Var.{Var}
use Rattle.tv_model.specs.Program.{picks_of}
use Rattle.tv_model.specs.Truth.{put}
use Rattle.tv_model.specs.Valid.{IsVariable}
use Rattle.tv_update.proofs.Variables.{picked-with}
use Rattle.tv_step.specs.Job.{IsCase, ArePickedBut, case_program, case_action, case_mode, case_structure}
use Rattle.tv_step.specs.Steps.{Adds, PickGives, PicksGive, PickKeepsLimits, PicksKeepLimits, IsCauseOfPick}
use Rattle.tv_step.specs.Steps.{IsCauseOfPicks}
use Rattle.tv_step.proofs.Adding.{adds-none}
use Rattle.tv_step.proofs.Picking.{picks-next, picks-done, limits-next, limits-done, cause-first}
use Rattle.tv_step.proofs.Picking.{picks-none, limits-none, cause-none}
use Rattle.tv_step.proofs.picks.+picked.Goals as goal

-- ---- one variable

pub pick_each-loop-u-init : goal.pick_each-loop-u-init
pick_each-loop-u-init t c =
    let a = assignment_of c.args.picks.now
    in let vars = picks_of c.args.left.now
    in record {
      like = like-itself c.args.picks.now c.args.v.0;
      out = adds-none (λ u own. PicksGive (case_program c.args.c.now) (case_mode c.args.c.now)
          (case_action c.args.c.now) (case_structure c.args.c.now) vars (put a c.args.v.0 u) own) c.args.out.now;
      within = All-nil (λ u. PicksKeepLimits (case_action c.args.c.now) (case_structure c.args.c.now) vars
          (put a c.args.v.0 u));
      scratch = refl;
    }

pub pick_each-pick_left-requires : goal.pick_each-pick_left-requires
pick_each-pick_left-requires t c = (
  omega (arith, c.decreases),
  (
    subst (IsCase c.args.c.now) (sym c.loop-u.invariant.scratch) c.requires.case,
    (
      c.requires.left,
      picked-with (case_action c.args.c.now).picks (picks_of c.args.left.now)
          (case_structure c.args.c.now).size
          c.args.v.0 c.loop-u.u c.args.picks.now c.set.new.self
          (put-again c.args.picks.now c.loop-u.here c.set.new.self c.args.v.0 c.loop-u.u c.loop-u.invariant.like
          c.set.ensures.places).places
          (omega (arith, c.loop-u-test.true, c.size-u-end.ensures.size)) c.requires.picks,
    ),
  ),
)

pub pick_each-returns-in_err-pick_left-clause-cause : goal.pick_each-returns-in_err-pick_left-clause-cause
pick_each-returns-in_err-pick_left-clause-cause t c =
    let action = case_action c.args.c.now
    in let s = case_structure c.args.c.now
    in let vars = picks_of c.args.left.now
    in let a = assignment_of c.args.picks.now
    in let e = c.in_err-pick_left.field-0.0
    in IfErr-same
    (IsCauseOfPicks action s (c.args.v.0 ∷ vars) a) c.from_residual.result e c.from_residual.ensures.1
    (cause-first action s c.args.v.0 vars a (assignment_of c.set.new.self) c.loop-u.u e
    (total-again c.args.picks.now c.loop-u.here c.set.new.self c.args.v.0 c.loop-u.u c.loop-u.invariant.like
    c.set.ensures.places)
    (omega (arith, c.loop-u-test.true, c.size-u-end.ensures.size)) c.in_err-pick_left.ensures.cause)

pub pick_each-loop-u-preserved : goal.pick_each-loop-u-preserved
pick_each-loop-u-preserved t c =
    let action = case_action c.args.c.now
    in let s = case_structure c.args.c.now
    in let vars = picks_of c.args.left.now
    in let a = assignment_of c.args.picks.now
    in let b = assignment_of c.set.new.self
    in let same = total-again c.args.picks.now c.loop-u.here c.set.new.self c.args.v.0 c.loop-u.u
    c.loop-u.invariant.like c.set.ensures.places
    in record {
      like = like-again c.args.picks.now c.loop-u.here c.set.new.self c.args.v.0 c.loop-u.u c.loop-u.invariant.like
          c.set.ensures.places;
      out = picks-next (case_program c.args.c.now) (case_mode c.args.c.now) action s c.args.v.0 vars a b c.loop-u.u
          c.args.out.now c.loop-u.out c.pick_left.new.out same c.loop-u.invariant.out
          c.in_ok-pick_left.ensures.out;
      within = limits-next action s c.args.v.0 vars a b c.loop-u.u same c.loop-u.invariant.within
          c.in_ok-pick_left.ensures.within;
      scratch = cc;
    }

pub pick_each-returns-clause-out : goal.pick_each-returns-clause-out
pick_each-returns-clause-out t c =
    picks-done (case_program c.args.c.now) (case_mode c.args.c.now) (case_action c.args.c.now)
    (case_structure c.args.c.now)
    c.args.v.0 (picks_of c.args.left.now) (assignment_of c.args.picks.now) c.loop-u.u c.args.out.now c.loop-u.out
    (omega (arith, c.loop-u-test.false, c.loop-u.auto.u-end, c.size-u-end.ensures.size))
    c.loop-u.invariant.out

pub pick_each-returns-clause-within : goal.pick_each-returns-clause-within
pick_each-returns-clause-within t c =
    limits-done (case_action c.args.c.now) (case_structure c.args.c.now) c.args.v.0 (picks_of c.args.left.now)
    (assignment_of c.args.picks.now) c.loop-u.u
    (omega (arith, c.loop-u-test.false, c.loop-u.auto.u-end, c.size-u-end.ensures.size))
    c.loop-u.invariant.within

-- ---- the last variable

last : (left : List Var) (r : Bool) → r ≡ (length left == 0) → r ≡ true → picks_of left ≡ []
last [] r is holds = refl
last (v ∷ left) r is holds = absurd (omega (arith, eqb-true (suc (length left)) 0 (sym is ∙ holds)))

pub pick_each-pick_last-requires-clause-picks : goal.pick_each-pick_last-requires-clause-picks
pick_each-pick_last-requires-clause-picks t c =
    subst (λ vars. ArePickedBut c.args.c.now (c.args.v.0 ∷ vars) c.args.picks.now)
    (last c.args.left.now c.is_empty.result c.is_empty.ensures c.if-is_empty.true) c.requires.picks

pub pick_each-returns-then-is_empty-clause-out : goal.pick_each-returns-then-is_empty-clause-out
pick_each-returns-then-is_empty-clause-out t c =
    let p = case_program c.args.c.now
    in let mode = case_mode c.args.c.now
    in let action = case_action c.args.c.now
    in let s = case_structure c.args.c.now
    in subst (λ vars. OnOk c.pick_last.result
    (Adds (PicksGive p mode action s (c.args.v.0 ∷ vars)) (assignment_of c.args.picks.now) c.args.out.now
    c.pick_last.new.out))
    (sym (last c.args.left.now c.is_empty.result c.is_empty.ensures c.if-is_empty.true)) c.pick_last.ensures.out

pub pick_each-returns-then-is_empty-clause-within : goal.pick_each-returns-then-is_empty-clause-within
pick_each-returns-then-is_empty-clause-within t c =
    subst (λ vars. OnOk c.pick_last.result
    (PicksKeepLimits (case_action c.args.c.now) (case_structure c.args.c.now) (c.args.v.0 ∷ vars)
    (assignment_of c.args.picks.now)))
    (sym (last c.args.left.now c.is_empty.result c.is_empty.ensures c.if-is_empty.true)) c.pick_last.ensures.within

pub pick_each-returns-then-is_empty-clause-cause : goal.pick_each-returns-then-is_empty-clause-cause
pick_each-returns-then-is_empty-clause-cause t c =
    subst (λ vars. IfErr c.pick_last.result
    (IsCauseOfPicks (case_action c.args.c.now) (case_structure c.args.c.now) (c.args.v.0 ∷ vars)
    (assignment_of c.args.picks.now)))
    (sym (last c.args.left.now c.is_empty.result c.is_empty.ensures c.if-is_empty.true)) c.pick_last.ensures.cause

-- ---- all that are left

abbrev nobody : Var
nobody = record { 0 = 0 }

pub pick_left-pick_each-requires : goal.pick_left-pick_each-requires
pick_left-pick_each-requires t c =
    let left = c.args.left.now
    in let rest = between 1 (length left) left
    in let whole = first-pick left nobody (omega (arith, c.in-len1-up.len_at_least))
    in let are : All IsVariable ((get_or left 0 nobody).0 ∷ picks_of rest)
    = subst (All IsVariable) whole c.requires.left
    in (
      omega (arith, c.decreases, ap length whole, length-map left (λ v. v.0), length-map rest (λ v. v.0)),
      (
        c.requires.case,
        (
          All-head IsVariable (get_or left 0 nobody).0 (picks_of rest) are,
          (
            All-tail IsVariable (get_or left 0 nobody).0 (picks_of rest) are,
            subst (λ vars. ArePickedBut c.args.c.now vars c.args.picks.now) whole c.requires.picks,
          ),
        ),
      ),
    )

pub pick_left-returns-in-empty-clause-out : goal.pick_left-returns-in-empty-clause-out
pick_left-returns-in-empty-clause-out t c =
    let p = case_program c.args.c.now
    in let mode = case_mode c.args.c.now
    in let action = case_action c.args.c.now
    in let s = case_structure c.args.c.now
    in let vars = picks_of c.args.left.now
    in let a = assignment_of c.args.picks.now
    in OnOk-weaker c.apply_if_passed.result
    (Adds (PickGives p mode action s) a c.args.out.now c.apply_if_passed.new.out)
    (Adds (PicksGive p mode action s vars) a c.args.out.now c.apply_if_passed.new.out)
    (picks-none p mode action s vars a c.args.out.now c.apply_if_passed.new.out
    (no-picks c.args.left.now c.in-empty.len_below))
    c.apply_if_passed.ensures.out

pub pick_left-returns-in-empty-clause-within : goal.pick_left-returns-in-empty-clause-within
pick_left-returns-in-empty-clause-within t c =
    let action = case_action c.args.c.now
    in let s = case_structure c.args.c.now
    in let vars = picks_of c.args.left.now
    in let a = assignment_of c.args.picks.now
    in OnOk-weaker c.apply_if_passed.result (PickKeepsLimits action s a) (PicksKeepLimits action s vars a)
    (limits-none action s vars a (no-picks c.args.left.now c.in-empty.len_below)) c.apply_if_passed.ensures.within

pub pick_left-returns-in-empty-clause-cause : goal.pick_left-returns-in-empty-clause-cause
pick_left-returns-in-empty-clause-cause t c =
    let action = case_action c.args.c.now
    in let s = case_structure c.args.c.now
    in let vars = picks_of c.args.left.now
    in let a = assignment_of c.args.picks.now
    in IfErr-weaker c.apply_if_passed.result (IsCauseOfPick action s a) (IsCauseOfPicks action s vars a)
    (λ e cause. cause-none action s vars a e (no-picks c.args.left.now c.in-empty.len_below) cause)
    c.apply_if_passed.ensures.cause

pub pick_left-returns-in-len1-up-clause-out : goal.pick_left-returns-in-len1-up-clause-out
pick_left-returns-in-len1-up-clause-out t c =
    let p = case_program c.args.c.now
    in let mode = case_mode c.args.c.now
    in let action = case_action c.args.c.now
    in let s = case_structure c.args.c.now
    in let whole = first-pick c.args.left.now nobody (omega (arith, c.in-len1-up.len_at_least))
    in subst (λ vars. OnOk c.pick_each.result
    (Adds (PicksGive p mode action s vars) (assignment_of c.args.picks.now) c.args.out.now c.pick_each.new.out))
    (sym whole) c.pick_each.ensures.out

pub pick_left-returns-in-len1-up-clause-within : goal.pick_left-returns-in-len1-up-clause-within
pick_left-returns-in-len1-up-clause-within t c =
    let whole = first-pick c.args.left.now nobody (omega (arith, c.in-len1-up.len_at_least))
    in subst (λ vars. OnOk c.pick_each.result
    (PicksKeepLimits (case_action c.args.c.now) (case_structure c.args.c.now) vars
    (assignment_of c.args.picks.now))) (sym whole) c.pick_each.ensures.within

pub pick_left-returns-in-len1-up-clause-cause : goal.pick_left-returns-in-len1-up-clause-cause
pick_left-returns-in-len1-up-clause-cause t c =
    let whole = first-pick c.args.left.now nobody (omega (arith, c.in-len1-up.len_at_least))
    in subst (λ vars. IfErr c.pick_each.result
    (IsCauseOfPicks (case_action c.args.c.now) (case_structure c.args.c.now) vars
    (assignment_of c.args.picks.now))) (sym whole) c.pick_each.ensures.cause
