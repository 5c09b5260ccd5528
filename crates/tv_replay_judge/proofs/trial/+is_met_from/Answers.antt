use Rattle.std.proofs.Common.{◌≡◌, ◌∙◌, ◌<◌, ◌≤◌, ◌-◌, ◌↔◌, ◌∷◌, [], IsTrue, true, false, length, take, drop}
use Rattle.std.proofs.Common.{get_or, refl, sym, ap, subst, arith}
use Rattle.std.specs.Prelude.{All}
use Rattle.std.proofs.lemmas.List.Elements.{All-head}
use Rattle.tv_coerce_members.specs.Members.{numbers_of}
use Rattle.tv_eval.specs.AssignmentForm.{assignment_of}
use Rattle.tv_model.specs.declared.formula.Var.{Var}
use Rattle.tv_model.specs.Truth.{put}
use Rattle.tv_two_valued.specs.TwoValued.{heap_of}
use Rattle.tv_replay_judge.specs.Trying.{CanTryIn, IsFreeIn, IsMetFrom, IsCheckStart}
use Rattle.tv_replay_judge.specs.Trying.{implication_of}
use Rattle.tv_replay_judge.proofs.Passed.{walked-all, walked-more}
use Rattle.tv_replay_judge.proofs.Walked.{met-at_end, none-at, split-vars, tail-shorter, tried-all}
use Rattle.tv_replay_judge.proofs.Walked.{tried-broken, variable-in_range, walk-on}
use Rattle.tv_replay_judge.proofs.trial.+is_met_from.Goals as goal

pub places_for-places-requires-clause-variable : goal.places_for-places-requires-clause-variable
places_for-places-requires-clause-variable m c =
    let s = c.args.s.now
    in let t = implication_of c.args.trial.now
    in let rest = c.args.rest.now
    in let d : Var = record { 0 = 0 }
    in let split = split-vars rest d (omega (arith, c.in-len1-up.len_at_least))
    in let free = subst (All (λ v. IsFreeIn v t)) split c.requires.walk.free
    in variable-in_range s t (get_or rest 0 d).0 c.requires.ready.1.body.formula c.requires.ready.1.head.formula
    (All-head (λ v. IsFreeIn v t) (get_or rest 0 d).0 _ free)

pub with-requires : goal.with-requires
with-requires m c =
    let s = c.args.s.now
    in let t = implication_of c.args.trial.now
    in let rest = c.args.rest.now
    in let d : Var = record { 0 = 0 }
    in let split = split-vars rest d (omega (arith, c.in-len1-up.len_at_least))
    in let free = subst (All (λ v. IsFreeIn v t)) split c.requires.walk.free
    in variable-in_range s t (get_or rest 0 d).0 c.requires.ready.1.body.formula c.requires.ready.1.head.formula
    (All-head (λ v. IsFreeIn v t) (get_or rest 0 d).0 _ free)

pub is_met_from-requires : goal.is_met_from-requires
is_met_from-requires m c =
    let s = c.args.s.now
    in let t = implication_of c.args.trial.now
    in let d : Var = record { 0 = 0 }
    in let rest = c.args.rest.now
    in let v = (get_or rest 0 d).0
    in let some : 1 ≤ length rest = omega (arith, c.in-len1-up.len_at_least)
    in let tail = numbers_of (take (length rest - 1) (drop 1 rest))
    in let split : numbers_of rest ≡ v ∷ tail = split-vars rest d some
    in let stays = c.loop-u.invariant.0
    in let within : c.in-Some.u < s.size = omega (arith, c.in-Some.ensures.1, c.places_for-places.ensures.row.size)
    in let falls : length (take (length rest - 1) (drop 1 rest)) < m = omega (arith, c.decreases, tail-shorter rest some)
    in (
      falls,
      (
        subst (λ e. CanTryIn e s t) (sym stays) c.requires.ready,
        walk-on s.size v c.in-Some.u tail t c.args.a.now c.with.result
            (subst (λ vs. IsCheckStart s.size t vs c.args.a.now) split c.requires.walk) within c.with.ensures.places,
      ),
    )

pub returns-then-not-is_met_from-clause-met : goal.returns-then-not-is_met_from-clause-met
returns-then-not-is_met_from-clause-met m c =
    let s = c.args.s.now
    in let t = implication_of c.args.trial.now
    in let d : Var = record { 0 = 0 }
    in let rest = c.args.rest.now
    in let v = (get_or rest 0 d).0
    in let tail = numbers_of (take (length rest - 1) (drop 1 rest))
    in let split : numbers_of rest ≡ v ∷ tail = split-vars rest d (omega (arith, c.in-len1-up.len_at_least))
    in let free = All-head (λ w. IsFreeIn w t) v tail (subst (All (λ w. IsFreeIn w t)) split c.requires.walk.free)
    in let within : c.in-Some.u < s.size = omega (arith, c.in-Some.ensures.1, c.places_for-places.ensures.row.size)
    in subst (λ vs. IsTrue false ↔ IsMetFrom (heap_of s) t vs (assignment_of c.args.a.now)) (sym split)
    (tried-broken s c.requires.ready.1.body.structure t v tail (assignment_of c.args.a.now) free c.in-Some.u within
    (subst (λ a. IsTrue false ↔ IsMetFrom (heap_of s) t tail a) c.with.ensures.total c.if-not-is_met_from.ensures.met))

pub loop-u-preserved : goal.loop-u-preserved
loop-u-preserved m c =
    let s = c.args.s.now
    in let t = implication_of c.args.trial.now
    in let rest = c.args.rest.now
    in let v = (get_or rest 0 (record { 0 = 0 })).0
    in let tail = numbers_of (take (length rest - 1) (drop 1 rest))
    in let within : c.in-Some.u < s.size = omega (arith, c.in-Some.ensures.1, c.places_for-places.ensures.row.size)
    in (
      c.is_met_from.ensures.same ∙ c.loop-u.invariant.0,
      omega (arith, within),
      walked-more s.size (λ k. IsMetFrom (heap_of s) t tail (put (assignment_of c.args.a.now) v k)) c.places_for-places.result c.loop-u.from
          c.in-Some.u c.places_for-places.ensures.row within c.loop-u.invariant.2 c.in-Some.ensures.3
          (subst (IsMetFrom (heap_of s) t tail) c.with.ensures.total (c.if-not-is_met_from.ensures.met.0 refl)),
    )

pub returns-in-empty-clause-met : goal.returns-in-empty-clause-met
returns-in-empty-clause-met m c =
    let s = c.args.s.now
    in let t = implication_of c.args.trial.now
    in let none : numbers_of c.args.rest.now ≡ [] = ap numbers_of (none-at c.args.rest.now c.in-empty.len_below)
    in met-at_end s t (numbers_of c.args.rest.now) c.args.a.now c.is_met.result none
    (subst (λ vs. IsCheckStart s.size t vs c.args.a.now) none c.requires.walk) c.is_met.ensures.met

pub returns-in_default-clause-met : goal.returns-in_default-clause-met
returns-in_default-clause-met m c =
    let s = c.args.s.now
    in let t = implication_of c.args.trial.now
    in let d : Var = record { 0 = 0 }
    in let rest = c.args.rest.now
    in let v = (get_or rest 0 d).0
    in let tail = numbers_of (take (length rest - 1) (drop 1 rest))
    in let split : numbers_of rest ≡ v ∷ tail = split-vars rest d (omega (arith, c.in-len1-up.len_at_least))
    in let free = All-head (λ w. IsFreeIn w t) v tail (subst (All (λ w. IsFreeIn w t)) split c.requires.walk.free)
    in subst (λ vs. IsTrue true ↔ IsMetFrom (heap_of s) t vs (assignment_of c.args.a.now)) (sym split)
    (tried-all s c.requires.ready.1.body.structure t v tail (assignment_of c.args.a.now) free s.size (omega arith)
    (walked-all s.size (λ k. IsMetFrom (heap_of s) t tail (put (assignment_of c.args.a.now) v k)) c.places_for-places.result c.loop-u.from
    c.places_for-places.ensures.row c.loop-u.invariant.2 c.in_default.ensures))
