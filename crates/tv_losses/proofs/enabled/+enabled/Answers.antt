use Rattle.std.proofs.Common.{◌≡◌, ◌↔◌, [], ◌∷◌, length, get_or, IsTrue, ap, sym, subst}
use Rattle.std.proofs.Common.{arith, All}
use Rattle.std.specs.List.{between}
use Rattle.std.proofs.lemmas.List.{length-map}
use Rattle.std.proofs.lemmas.List.Elements.{All-head, All-tail}
use Rattle.tv_lemmas.proofs.Bools.{isnt_so}
use Rattle.tv_model.proofs.Parts.{no-picks, first-pick}
use Rattle.tv_eval.specs.AssignmentForm.{assignment_of}
use Rattle.tv_kleene.specs.declared.K3.TheVariants.{Yes}
use Rattle.tv_model.specs.declared.formula.Var.{Var}
use Rattle.tv_model.specs.Program.{picks_of}
use Rattle.tv_model.specs.Truth.{put}
use Rattle.tv_model.specs.Valid.{IsVariable}
use Rattle.tv_structure_form.specs.StructureForm.{structure_of}
use Rattle.tv_update_laws.specs.Picks.{precondition_value}
use Rattle.tv_update.proofs.Variables.{picked-with, all-picked}
use Rattle.tv_losses.specs.Cases.{ArePickedBut, IsCase, action_in}
use Rattle.tv_losses.specs.Enabled.{IsEnabledWith}
use Rattle.tv_losses.proofs.Searching.{denied, is-so, nobody-next, same-answer}
use Rattle.tv_losses.proofs.Searching.{with-first, with-nobody, with-none}
use Rattle.tv_losses.proofs.enabled.+enabled.Goals as goal

-- ---- one variable

pub is_enabled_by_some-is_enabled_with-requires : goal.is_enabled_by_some-is_enabled_with-requires
is_enabled_by_some-is_enabled_with-requires t c = (
  omega (arith, c.decreases),
  (
    subst (IsCase c.args.c.now) (sym c.loop-u.invariant.same) c.requires.case,
    (
      c.requires.left,
      picked-with (action_in c.args.c.now).picks (picks_of c.args.left.now) c.args.c.now.from.now.size c.args.v.0 c.loop-u.u
          c.args.picks.now c.with.result c.with.ensures.places
          (omega (arith, c.loop-u-test.true, c.size-u-end.ensures.size)) c.requires.picks,
    ),
  ),
)

pub is_enabled_by_some-loop-u-preserved : goal.is_enabled_by_some-loop-u-preserved
is_enabled_by_some-loop-u-preserved t c =
    let action = action_in c.args.c.now
    in let vars = picks_of c.args.left.now
    in let a = assignment_of c.args.picks.now
    in record {
      none = nobody-next (λ u. IsEnabledWith action c.args.c.now.from.now vars (put a c.args.v.0 u)) c.loop-u.u
          c.loop-u.invariant.none
          (subst (λ b. ¬ IsEnabledWith action c.args.c.now.from.now vars b) c.with.ensures.total
          (denied (IsEnabledWith action c.args.c.now.from.now vars (assignment_of c.with.result)) c.is_enabled_with.result
          c.is_enabled_with.ensures.value c.if-is_enabled_with.false));
      same = cc;
    }

pub is_enabled_by_some-returns-then-is_enabled_with-clause-value :
    goal.is_enabled_by_some-returns-then-is_enabled_with-clause-value
is_enabled_by_some-returns-then-is_enabled_with-clause-value t c =
    let action = action_in c.args.c.now
    in let vars = picks_of c.args.left.now
    in let a = assignment_of c.args.picks.now
    in is-so (IsEnabledWith action c.args.c.now.from.now (c.args.v.0 ∷ vars) a)
    (with-first action c.args.c.now.from.now c.args.v.0 vars a c.loop-u.u
    (omega (arith, c.loop-u-test.true, c.size-u-end.ensures.size))
    (subst (IsEnabledWith action c.args.c.now.from.now vars) c.with.ensures.total
    (c.is_enabled_with.ensures.value.0 c.if-is_enabled_with.true)))

pub is_enabled_by_some-returns-clause-value : goal.is_enabled_by_some-returns-clause-value
is_enabled_by_some-returns-clause-value t c =
    let action = action_in c.args.c.now
    in let vars = picks_of c.args.left.now
    in let a = assignment_of c.args.picks.now
    in isnt_so (IsEnabledWith action c.args.c.now.from.now (c.args.v.0 ∷ vars) a)
    (with-nobody action c.args.c.now.from.now c.args.v.0 vars a
    (λ u lt. c.loop-u.invariant.none u
    (omega (arith, lt, c.loop-u-test.false, c.loop-u.auto.u-end, c.size-u-end.ensures.size))))

-- ---- all that are left

abbrev nobody : Var
nobody = record { 0 = 0 }

pub is_enabled_with-is_enabled_by_some-requires : goal.is_enabled_with-is_enabled_by_some-requires
is_enabled_with-is_enabled_by_some-requires t c =
    let left = c.args.left.now
    in let rest = between 1 (length left) left
    in let whole = first-pick left nobody (omega (arith, c.in-len1-up.len_at_least))
    in let are : All IsVariable ((get_or left 0 nobody).0 ∷ picks_of rest)
    = subst (All IsVariable) whole c.requires.left
    in (
      omega (arith, c.decreases, ap length whole, length-map left (λ v. v.0), length-map rest (λ v. v.0)),
      (
        c.requires.case,
        (
          All-head IsVariable (get_or left 0 nobody).0 (picks_of rest) are,
          (
            All-tail IsVariable (get_or left 0 nobody).0 (picks_of rest) are,
            subst (λ vars. ArePickedBut (action_in c.args.c.now) c.args.c.now.from.now vars c.args.picks.now) whole
                c.requires.picks,
          ),
        ),
      ),
    )

pub is_enabled_with-is_sure-requires-clause-picks : goal.is_enabled_with-is_sure-requires-clause-picks
is_enabled_with-is_sure-requires-clause-picks t c =
    all-picked (action_in c.args.c.now).picks (picks_of c.args.left.now) c.args.c.now.from.now.size c.args.picks.now
    (no-picks c.args.left.now c.in-empty.len_below) c.requires.picks

pub is_enabled_with-returns-in-empty-clause-value : goal.is_enabled_with-returns-in-empty-clause-value
is_enabled_with-returns-in-empty-clause-value t c =
    let action = action_in c.args.c.now
    in let a = assignment_of c.args.picks.now
    in subst (λ vars. IsTrue c.is_sure.result ↔ IsEnabledWith action c.args.c.now.from.now vars a)
    (sym (no-picks c.args.left.now c.in-empty.len_below))
    (same-answer (precondition_value (structure_of c.args.c.now.from.now) a action.pre ≡ Yes)
    (IsEnabledWith action c.args.c.now.from.now [] a) c.is_sure.result c.is_sure.ensures.value
    (with-none action c.args.c.now.from.now a))

pub is_enabled_with-returns-in-len1-up-clause-value : goal.is_enabled_with-returns-in-len1-up-clause-value
is_enabled_with-returns-in-len1-up-clause-value t c =
    let whole = first-pick c.args.left.now nobody (omega (arith, c.in-len1-up.len_at_least))
    in subst (λ vars. IsTrue c.is_enabled_by_some.result
    ↔ IsEnabledWith (action_in c.args.c.now) c.args.c.now.from.now vars (assignment_of c.args.picks.now)) (sym whole)
    c.is_enabled_by_some.ensures.value
