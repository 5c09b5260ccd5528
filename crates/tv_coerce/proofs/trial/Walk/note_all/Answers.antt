use Rattle.std.proofs.Common.{◌∙◌}
use Rattle.std.proofs.Common.{◌+◌, ◌*◌, [], ◌∷◌, refl, subst, sym, arith}
use Rattle.tv_eval.specs.AssignmentForm.{assignment_of}
use Rattle.tv_structure_form.specs.StructureForm.{arities_of}
use Rattle.tv_coerce.specs.Counting.{variables_in}
use Rattle.tv_coerce.specs.Trying.{GoesOn, IsReadyFor, IsTold, rule_at, trial_rule}
use Rattle.tv_coerce.specs.Walks.{AreMet, AreTriedFor, GoesOnIn, IsBetween}
use Rattle.tv_coerce.proofs.Placing.{kin-variable, last-free, own-kin, rule-variable}
use Rattle.tv_coerce.proofs.Walking.{can-try-kin, kept-more, last-placed, start-kept, start-passed}
use Rattle.tv_coerce.proofs.Walking.{told-both, told-never}
use Rattle.tv_coerce.proofs.Walking.{told-some, told-tried, tried-noted, tried-rest}
use Rattle.tv_coerce.proofs.trial.Walk.note_all.Goals as goal

pub set-requires : goal.set-requires
set-requires c =
    let trial = c.args.trial.now
    in rule-variable (arities_of trial.structure.now) (trial_rule trial)
    (can-try-kin trial _ trial.number (own-kin trial c.requires.ready.trial) c.requires.ready.rules).over trial.last.0
    (last-free trial c.requires.ready.trial [] c.requires.walk.left)

pub note-requires-clause-ready : goal.note-requires-clause-ready
note-requires-clause-ready c =
    subst (IsReadyFor c.args.trial.now) (sym c.loop-i.invariant.0) c.requires.ready

pub note-requires-clause-placed : goal.note-requires-clause-placed
note-requires-clause-placed c =
    let trial = c.args.trial.now
    in let start = start-kept trial c.requires.ready.trial [] c.args.self.now.a c.loop-i.self.a c.args.tail
    c.loop-i.invariant.1 c.requires.walk
    in last-placed trial c.requires.ready.trial c.loop-i.self.a c.set.new.self c.args.tail c.in-Some.i start
    c.in-Some.ensures.1 c.in-Some.ensures.2 c.set.ensures.places

pub returns-then-has_more-clause-told : goal.returns-then-has_more-clause-told
returns-then-has_more-clause-told c =
    let trial = c.args.trial.now
    in let w = trial.last.0
    in let first = 64 * trial.chunk
    in let a = c.args.self.now.a
    in let told = subst (IsTold trial (AreMet trial (assignment_of c.set.new.self)) c.loop-i.self.noted
    c.note.new.noted) c.in-Possible.is c.in_ok-note.ensures.told
    in told-some trial
    (AreTriedFor trial (λ b. GoesOn (variables_in trial) (w ∷ []) (assignment_of a) b × IsBetween w first (first + c.loop-i.from) b))
    (AreMet trial (assignment_of c.set.new.self))
    (AreTriedFor trial (GoesOnIn trial (w ∷ []) (assignment_of a)))
    c.args.self.now.noted c.loop-i.self.noted c.note.new.noted c.loop-i.invariant.3
    (c.if-has_more.ensures refl) told

pub loop-i-preserved : goal.loop-i-preserved
loop-i-preserved c =
    let trial = c.args.trial.now
    in let s = trial.structure.now
    in let is = c.requires.ready.trial
    in let vars = variables_in trial
    in let w = trial.last.0
    in let first = 64 * trial.chunk
    in let i = c.in-Some.i
    in let a = c.args.self.now.a
    in let new = c.set.new.self
    in let told = subst (IsTold trial (AreMet trial (assignment_of new)) c.loop-i.self.noted c.note.new.noted)
    c.in-Possible.is c.in_ok-note.ensures.told
    in let passed = start-passed trial is [] a c.args.tail c.requires.walk c.loop-i.from i (omega (arith, c.in-Some.ensures.1)) c.in-Some.ensures.3
    in (
      c.in_ok-note.ensures.same ∙ c.loop-i.invariant.0,
      kept-more w [] (first + i) a c.loop-i.self.a new new c.loop-i.invariant.1 c.set.ensures.places (λ x none. refl),
      omega (arith, c.in-Some.ensures.1),
      told-both trial
          (AreTriedFor trial (λ b. GoesOn vars (w ∷ []) (assignment_of a) b × IsBetween w first (first + c.loop-i.from) b))
          (AreMet trial (assignment_of new))
          (AreTriedFor trial (λ b. GoesOn vars (w ∷ []) (assignment_of a) b × IsBetween w first (first + (i + 1)) b))
          c.args.self.now.noted c.loop-i.self.noted c.note.new.noted c.loop-i.invariant.3
          (λ so_far met n kin. tried-noted s (rule_at trial.closed.now n) vars (kin-variable trial is n kin) w first
          c.loop-i.from i a new c.loop-i.self.a
          c.loop-i.invariant.1 c.set.ensures.places (passed n kin) (so_far n kin) (met n kin))
          told,
    )

pub returns-in-Impossible-clause-told : goal.returns-in-Impossible-clause-told
returns-in-Impossible-clause-told c =
    let trial = c.args.trial.now
    in let w = trial.last.0
    in let first = 64 * trial.chunk
    in let a = c.args.self.now.a
    in let told = subst (IsTold trial (AreMet trial (assignment_of c.set.new.self)) c.loop-i.self.noted
    c.note.new.noted) c.in-Impossible.is c.in_ok-note.ensures.told
    in told-never trial
    (AreTriedFor trial (λ b. GoesOn (variables_in trial) (w ∷ []) (assignment_of a) b × IsBetween w first (first + c.loop-i.from) b))
    (AreMet trial (assignment_of c.set.new.self))
    (AreTriedFor trial (GoesOnIn trial (w ∷ []) (assignment_of a)))
    c.args.self.now.noted c.loop-i.self.noted c.note.new.noted c.loop-i.invariant.3 told

pub returns-clause-told : goal.returns-clause-told
returns-clause-told c =
    let trial = c.args.trial.now
    in let is = c.requires.ready.trial
    in let s = trial.structure.now
    in let vars = variables_in trial
    in let w = trial.last.0
    in let first = 64 * trial.chunk
    in let a = c.args.self.now.a
    in let passed = start-passed trial is [] a c.args.tail c.requires.walk c.loop-i.from 64 (omega arith) c.in_default.ensures
    in told-both trial
    (AreTriedFor trial (λ b. GoesOn vars (w ∷ []) (assignment_of a) b × IsBetween w first (first + c.loop-i.from) b))
    (AreTriedFor trial (λ b. GoesOn vars (w ∷ []) (assignment_of a) b × IsBetween w (first + c.loop-i.from) (first + 64) b))
    (AreTriedFor trial (GoesOnIn trial (w ∷ []) (assignment_of a)))
    c.args.self.now.noted c.loop-i.self.noted c.loop-i.self.noted c.loop-i.invariant.3
    (λ so_far rest n kin. tried-rest s (rule_at trial.closed.now n) vars (kin-variable trial is n kin) w first (first + c.loop-i.from) (first + 64)
    (GoesOn vars (w ∷ []) (assignment_of a)) (GoesOn vars (w ∷ []) (assignment_of a)) (λ b goes. goes) (rest n kin) (so_far n kin))
    (told-tried trial _ c.loop-i.self.noted passed)

pub returns-in_err-note-clause-keeps : goal.returns-in_err-note-clause-keeps
returns-in_err-note-clause-keeps c =
    kept-more c.args.trial.now.last.0 [] (64 * c.args.trial.now.chunk + c.in-Some.i) c.args.self.now.a
    c.loop-i.self.a c.set.new.self c.set.new.self
    c.loop-i.invariant.1 c.set.ensures.places (λ x none. refl)

pub returns-then-has_more-clause-keeps : goal.returns-then-has_more-clause-keeps
returns-then-has_more-clause-keeps c =
    kept-more c.args.trial.now.last.0 [] (64 * c.args.trial.now.chunk + c.in-Some.i) c.args.self.now.a
    c.loop-i.self.a c.set.new.self c.set.new.self
    c.loop-i.invariant.1 c.set.ensures.places (λ x none. refl)

pub returns-in-Impossible-clause-keeps : goal.returns-in-Impossible-clause-keeps
returns-in-Impossible-clause-keeps c =
    kept-more c.args.trial.now.last.0 [] (64 * c.args.trial.now.chunk + c.in-Some.i) c.args.self.now.a
    c.loop-i.self.a c.set.new.self c.set.new.self
    c.loop-i.invariant.1 c.set.ensures.places (λ x none. refl)
