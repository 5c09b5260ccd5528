use Rattle.std.proofs.Common.{◌∙◌}
use Rattle.std.proofs.Common.{◌*◌, ◌+◌, [], ◌∷◌, length, arith, refl, subst, sym, false}
use Rattle.std.specs.Prelude.{Contains}
use Rattle.std.proofs.lemmas.List.Elements.{Contains-append_right}
use Rattle.tv_coerce_members.specs.Members.{numbers_of}
use Rattle.tv_eval.specs.AssignmentForm.{assignment_of}
use Rattle.tv_coerce.specs.Counting.{members_in}
use Rattle.tv_coerce.specs.Trying.{IsReadyFor, IsTold, rule_at}
use Rattle.tv_coerce.specs.Walks.{AreTriedFor, IsAny, IsBetween, IsInChunk}
use Rattle.tv_coerce.specs.declared.trial.Outcome.TheVariants.{Possible}
use Rattle.tv_coerce.proofs.Placing.{kin-free, kin-variable, own-none, own-tried}
use Rattle.tv_coerce.proofs.Walking.{of-chunk, tells-agreed}
use Rattle.tv_coerce.proofs.Walking.{told-both, told-of, told-so, tried-last}
use Rattle.tv_coerce.proofs.Walking.{tried-whole}
use Rattle.tv_coerce.proofs.trial.Walk.walk_chunks.Goals as goal

pub walk_last-requires-clause-ready : goal.walk_last-requires-clause-ready
walk_last-requires-clause-ready c =
    let ready = subst (IsReadyFor c.args.trial.now) (sym c.loop-chunk.invariant.0) c.requires.ready
    in record {
      trial = record { number = ready.trial.number; laid = ready.trial.laid; kin = ready.trial.kin };
      structure = ready.structure;
      rules = ready.rules;
    }

pub walk_last-requires-clause-begun : goal.walk_last-requires-clause-begun
walk_last-requires-clause-begun c =
    let trial = c.args.trial.now
    in let before = numbers_of c.args.before.now
    in record {
      variables = c.requires.begun.variables;
      own = tells-agreed trial.structure.now (assignment_of c.args.self.now.a) (assignment_of c.loop-chunk.self.a)
          (members_in trial) (length before)
          false c.args.own
          (λ k m there those x free. absurd (own-none trial c.requires.ready.trial before trial.last.0 c.requires.begun.variables k m there
          (omega (arith, those.0)) those.1 x free))
          c.requires.begun.own;
      some = c.requires.begun.some;
    }

pub walk_last-requires-clause-narrowed : goal.walk_last-requires-clause-narrowed
walk_last-requires-clause-narrowed c = λ left word found. c.requires.narrowed left word found

pub loop-chunk-preserved : goal.loop-chunk-preserved
loop-chunk-preserved c =
    let trial = c.args.trial.now
    in let is = c.requires.ready.trial
    in let s = trial.structure.now
    in let w = trial.last.0
    in let k = c.loop-chunk.chunk
    in let told = told-of trial c.args.trial.now.last k (IsInChunk w k) c.loop-chunk.self.noted
    c.walk_last.new.self.noted
    (subst (IsTold (of-chunk trial c.args.trial.now.last k) (AreTriedFor (of-chunk trial c.args.trial.now.last k)
    (IsInChunk w k)) c.loop-chunk.self.noted c.walk_last.new.self.noted)
    c.in-Possible.is c.in_ok-walk_last.ensures.told)
    in (
      c.in_ok-walk_last.ensures.same ∙ c.loop-chunk.invariant.0,
      told-both trial (AreTriedFor trial (IsBetween w 0 (64 * k))) (AreTriedFor trial (IsInChunk w k))
          (AreTriedFor trial (IsBetween w 0 (64 * (k + 1)))) c.args.self.now.noted c.loop-chunk.self.noted
          c.walk_last.new.self.noted c.loop-chunk.invariant.1
          (λ so_far tried n kin. tried-last s (rule_at trial.closed.now n) (numbers_of trial.shape.now.variables) (kin-variable trial is n kin) w k
          (so_far n kin) (tried n kin)) told,
    )

pub returns-clause-told : goal.returns-clause-told
returns-clause-told c =
    let trial = c.args.trial.now
    in let is = c.requires.ready.trial
    in let s = trial.structure.now
    in let w = trial.last.0
    in let before = numbers_of c.args.before.now
    in let end = 64 * c.loop-chunk.chunk
    in let free = ((own-tried trial is).free w).0 (subst (λ xs. Contains xs w) (sym c.requires.begun.variables)
    (Contains-append_right before (w ∷ []) w (0, omega arith, refl)))
    in told-so trial (AreTriedFor trial (IsBetween w 0 end)) (AreTriedFor trial IsAny) c.args.self.now.noted
    c.loop-chunk.self.noted Possible
    (λ tried n kin. tried-whole s (rule_at trial.closed.now n) (numbers_of trial.shape.now.variables) (kin-variable trial is n kin) w end IsAny
    (kin-free trial is n kin w free)
    (omega (arith, c.loop-chunk-test.false, c.chunks-chunk-end.ensures.all, c.size.ensures.size)) (λ b pair. tried n kin b pair.1))
    c.loop-chunk.invariant.1
