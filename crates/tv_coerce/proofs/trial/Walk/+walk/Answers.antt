use Rattle.std.proofs.Common.{ℕ, ◌≡◌, ◌≢◌, ◌<◌, ◌≤◌, ◌+◌, ◌-◌, ◌*◌, ◌∙◌, [], ◌∷◌, ◌++◌, length, take, drop}
use Rattle.std.proofs.Common.{get_or}
use Rattle.std.proofs.Common.{refl, sym, ap, subst}
use Rattle.std.proofs.Common.{arith, min, true, false}
use Rattle.std.specs.Prelude.{IfOk, Some, slice_get}
use Rattle.std.proofs.lemmas.List.{length-map}
use Rattle.tv_kleene.specs.declared.K3.TheVariants.{No, Yes}
use Rattle.tv_model.specs.declared.formula.Var.{Var}
use Rattle.tv_coerce_members.specs.Members.{AreSteps, numbers_of}
use Rattle.tv_row.specs.Bits.{paired}
use Rattle.tv_eval.specs.AssignmentForm.{assignment_of}
use Rattle.tv_eval.specs.Bound.{bound_room}
use Rattle.tv_structure_form.specs.StructureForm.{arities_of}
use Rattle.tv_coerce.specs.Counting.{IsWalkStart, counted, members_in, variables_in}
use Rattle.tv_coerce.specs.Opened.{IsGoingOn}
use Rattle.tv_coerce.specs.Trying.{DifferOnlyAt, IsReadyFor, IsTold, rule_at, trial_rule}
use Rattle.tv_coerce.specs.Walks.{AreTriedFor, GoesOnIn, IsBetween, IsInChunk}
use Rattle.tv_coerce.specs.declared.trial.Outcome.TheVariants.{Possible}
use Rattle.tv_coerce.proofs.Placing.{kin-free, kin-variable, left-free, left-on, level-last, level-own}
use Rattle.tv_coerce.proofs.Placing.{level-there, own-kin, read-last}
use Rattle.tv_coerce.proofs.Placing.{read-own, rule-variable}
use Rattle.tv_coerce.proofs.Walking.{all-word, can-try-kin, differ-on, kept-more, none-at}
use Rattle.tv_coerce.proofs.Opening.{open-passed}
use Rattle.tv_coerce.proofs.Walking.{none-left, own-half}
use Rattle.tv_coerce.proofs.Walking.{put-kept, put-placed, split-vars, start-kept, tail-shorter}
use Rattle.tv_coerce.proofs.Walking.{told-both, told-never, told-so, told-some}
use Rattle.tv_coerce.proofs.Walking.{told-tried, tried-chunk, tried-next, tried-rest, tried-whole, walk-on}
use Rattle.tv_coerce.proofs.trial.Walk.+walk.Goals as goal

-- ---- walk

pub walk-note_all-requires : goal.walk-note_all-requires
walk-note_all-requires t c = record {
  ready = c.requires.ready;
  walk = subst (λ vs. IsWalkStart c.args.trial.now vs c.args.self.now.a c.args.tail) (ap numbers_of (none-at
      c.args.rest.now c.in-empty.len_below))
      c.requires.walk;
}

pub walk-returns-in-empty-clause-told : goal.walk-returns-in-empty-clause-told
walk-returns-in-empty-clause-told t c =
    let trial = c.args.trial.now
    in let none : numbers_of c.args.rest.now ≡ [] = ap numbers_of (none-at c.args.rest.now c.in-empty.len_below)
    in subst (λ vs. IfOk c.note_all.result (IsTold trial
    (AreTriedFor trial (GoesOnIn trial (vs ++ trial.last.0 ∷ []) (assignment_of c.args.self.now.a)))
    c.args.self.now.noted c.note_all.new.self.noted)) (sym none) c.note_all.ensures.told

pub walk-returns-in-empty-clause-keeps : goal.walk-returns-in-empty-clause-keeps
walk-returns-in-empty-clause-keeps t c =
    let none : numbers_of c.args.rest.now ≡ [] = ap numbers_of (none-at c.args.rest.now c.in-empty.len_below)
    in subst (λ vs. DifferOnlyAt (vs ++ c.args.trial.now.last.0 ∷ []) c.args.self.now.a c.note_all.new.self.a) (sym
    none) c.note_all.ensures.keeps

pub walk-walk_chunk-requires : goal.walk-walk_chunk-requires
walk-walk_chunk-requires t c =
    let trial = c.args.trial.now
    in let d : Var = record { 0 = 0 }
    in let rest = c.args.rest.now
    in let v = (get_or rest 0 d).0
    in let some : 1 ≤ length rest = omega (arith, c.in-len1-up.len_at_least)
    in let tail = numbers_of (take (length rest - 1) (drop 1 rest))
    in let split : numbers_of rest ≡ v ∷ tail = split-vars rest d some
    in let stays = c.loop-chunk.invariant.0
    in (
      omega (arith, c.decreases, tail-shorter rest some),
      (
        subst (IsReadyFor trial) (sym stays) c.requires.ready,
        (
          start-kept trial c.requires.ready.trial (v ∷ tail) c.args.self.now.a c.loop-chunk.self.a c.args.tail
              c.loop-chunk.invariant.1
              (subst (λ vs. IsWalkStart trial vs c.args.self.now.a c.args.tail) split c.requires.walk),
          omega (arith, c.chunks-chunk-end.ensures.each c.loop-chunk.chunk c.loop-chunk-test.true, c.size.ensures.size),
        ),
      ),
    )

pub walk-returns-in_err-walk_chunk-in-len1-up-clause-keeps : goal.walk-returns-in_err-walk_chunk-in-len1-up-clause-keeps
walk-returns-in_err-walk_chunk-in-len1-up-clause-keeps t c =
    let d : Var = record { 0 = 0 }
    in let rest = c.args.rest.now
    in let w = c.args.trial.now.last.0
    in let v = (get_or rest 0 d).0
    in let tail = numbers_of (take (length rest - 1) (drop 1 rest))
    in let split : numbers_of rest ≡ v ∷ tail = split-vars rest d (omega (arith, c.in-len1-up.len_at_least))
    in subst (λ vs. DifferOnlyAt (vs ++ w ∷ []) c.args.self.now.a c.walk_chunk.new.self.a) (sym split)
    (differ-on (v ∷ tail ++ w ∷ []) c.args.self.now.a c.loop-chunk.self.a c.walk_chunk.new.self.a
    c.loop-chunk.invariant.1 c.in_err-walk_chunk-in-len1-up.ensures.keeps)

pub walk-returns-then-has_more-clause-keeps : goal.walk-returns-then-has_more-clause-keeps
walk-returns-then-has_more-clause-keeps t c =
    let d : Var = record { 0 = 0 }
    in let rest = c.args.rest.now
    in let w = c.args.trial.now.last.0
    in let v = (get_or rest 0 d).0
    in let tail = numbers_of (take (length rest - 1) (drop 1 rest))
    in let split : numbers_of rest ≡ v ∷ tail = split-vars rest d (omega (arith, c.in-len1-up.len_at_least))
    in subst (λ vs. DifferOnlyAt (vs ++ w ∷ []) c.args.self.now.a c.walk_chunk.new.self.a) (sym split)
    (differ-on (v ∷ tail ++ w ∷ []) c.args.self.now.a c.loop-chunk.self.a c.walk_chunk.new.self.a
    c.loop-chunk.invariant.1 c.in_ok-walk_chunk-in-len1-up.ensures.keeps)

pub walk-returns-in-Impossible-clause-keeps : goal.walk-returns-in-Impossible-clause-keeps
walk-returns-in-Impossible-clause-keeps t c =
    let d : Var = record { 0 = 0 }
    in let rest = c.args.rest.now
    in let w = c.args.trial.now.last.0
    in let v = (get_or rest 0 d).0
    in let tail = numbers_of (take (length rest - 1) (drop 1 rest))
    in let split : numbers_of rest ≡ v ∷ tail = split-vars rest d (omega (arith, c.in-len1-up.len_at_least))
    in subst (λ vs. DifferOnlyAt (vs ++ w ∷ []) c.args.self.now.a c.walk_chunk.new.self.a) (sym split)
    (differ-on (v ∷ tail ++ w ∷ []) c.args.self.now.a c.loop-chunk.self.a c.walk_chunk.new.self.a
    c.loop-chunk.invariant.1 c.in_ok-walk_chunk-in-len1-up.ensures.keeps)

pub walk-loop-chunk-preserved : goal.walk-loop-chunk-preserved
walk-loop-chunk-preserved t c =
    let trial = c.args.trial.now
    in let is = c.requires.ready.trial
    in let s = trial.structure.now
    in let d : Var = record { 0 = 0 }
    in let rest = c.args.rest.now
    in let w = trial.last.0
    in let v = (get_or rest 0 d).0
    in let tail = numbers_of (take (length rest - 1) (drop 1 rest))
    in let k = c.loop-chunk.chunk
    in let a = c.args.self.now.a
    in let told = subst (IsTold trial
    (AreTriedFor trial (λ b. GoesOnIn trial (v ∷ tail ++ w ∷ []) (assignment_of c.loop-chunk.self.a) b × IsInChunk v
    k b)) c.loop-chunk.self.noted c.walk_chunk.new.self.noted)
    c.in-Possible.is c.in_ok-walk_chunk-in-len1-up.ensures.told
    in (
      c.in_ok-walk_chunk-in-len1-up.ensures.same ∙ c.loop-chunk.invariant.0,
      differ-on (v ∷ tail ++ w ∷ []) a c.loop-chunk.self.a c.walk_chunk.new.self.a c.loop-chunk.invariant.1
          c.in_ok-walk_chunk-in-len1-up.ensures.keeps,
      told-both trial
          (AreTriedFor trial (λ b. GoesOnIn trial (v ∷ tail ++ w ∷ []) (assignment_of a) b × IsBetween v 0 (64 * k) b))
          (AreTriedFor trial (λ b. GoesOnIn trial (v ∷ tail ++ w ∷ []) (assignment_of c.loop-chunk.self.a) b ×
          IsInChunk v k b))
          (AreTriedFor trial (λ b. GoesOnIn trial (v ∷ tail ++ w ∷ []) (assignment_of a) b × IsBetween v 0 (64 * (k + 1)) b))
          c.args.self.now.noted c.loop-chunk.self.noted c.walk_chunk.new.self.noted c.loop-chunk.invariant.2
          (λ so_far tried n kin. tried-chunk s (rule_at trial.closed.now n) (variables_in trial) (kin-variable trial is n kin) v (tail ++ w ∷ []) w
          trial.chunk k a c.loop-chunk.self.a c.loop-chunk.invariant.1 (so_far n kin) (tried n kin)) told,
    )

pub walk-returns-after-loop-chunk-clause-told : goal.walk-returns-after-loop-chunk-clause-told
walk-returns-after-loop-chunk-clause-told t c =
    let trial = c.args.trial.now
    in let is = c.requires.ready.trial
    in let s = trial.structure.now
    in let d : Var = record { 0 = 0 }
    in let rest = c.args.rest.now
    in let w = trial.last.0
    in let v = (get_or rest 0 d).0
    in let tail = numbers_of (take (length rest - 1) (drop 1 rest))
    in let split : numbers_of rest ≡ v ∷ tail = split-vars rest d (omega (arith, c.in-len1-up.len_at_least))
    in let start = subst (λ vs. IsWalkStart trial vs c.args.self.now.a c.args.tail) split c.requires.walk
    in let a = assignment_of c.args.self.now.a
    in let end = 64 * c.loop-chunk.chunk
    in subst (λ vs. IsTold trial (AreTriedFor trial (GoesOnIn trial (vs ++ w ∷ []) a))
    c.args.self.now.noted c.loop-chunk.self.noted Possible) (sym split)
    (told-so trial
    (AreTriedFor trial (λ b. GoesOnIn trial (v ∷ tail ++ w ∷ []) a b × IsBetween v 0 end b))
    (AreTriedFor trial (GoesOnIn trial (v ∷ tail ++ w ∷ []) a))
    c.args.self.now.noted c.loop-chunk.self.noted Possible
    (λ tried n kin. tried-whole s (rule_at trial.closed.now n) (variables_in trial) (kin-variable trial is n kin) v end
    (GoesOnIn trial (v ∷ tail ++ w ∷ []) a)
    (kin-free trial is n kin v (left-free trial is (v ∷ tail) start.left v (0, omega arith, refl)))
    (omega (arith, c.loop-chunk-test.false, c.chunks-chunk-end.ensures.all, c.size.ensures.size)) (tried n kin))
    c.loop-chunk.invariant.2)

pub walk-returns-after-loop-chunk-clause-keeps : goal.walk-returns-after-loop-chunk-clause-keeps
walk-returns-after-loop-chunk-clause-keeps t c =
    let d : Var = record { 0 = 0 }
    in let rest = c.args.rest.now
    in let v = (get_or rest 0 d).0
    in let tail = numbers_of (take (length rest - 1) (drop 1 rest))
    in let split : numbers_of rest ≡ v ∷ tail = split-vars rest d (omega (arith, c.in-len1-up.len_at_least))
    in subst (λ vs. DifferOnlyAt (vs ++ c.args.trial.now.last.0 ∷ []) c.args.self.now.a c.loop-chunk.self.a) (sym
    split) c.loop-chunk.invariant.1

-- ---- walk_chunk

pub walk_chunk-level_of-level-requires : goal.walk_chunk-level_of-level-requires
walk_chunk-level_of-level-requires t c =
    let trial = c.args.trial.now
    in let rest = numbers_of c.args.rest.now
    in omega (
      arith,
      level-there trial c.requires.ready.trial rest (left-on trial c.args.span.v.0 rest c.requires.walk.left),
      length-map c.args.rest.now (λ (v : Var). v.0),
    )

pub walk_chunk-counted_all-own-requires-clause-can : goal.walk_chunk-counted_all-own-requires-clause-can
walk_chunk-counted_all-own-requires-clause-can t c =
    let trial = c.args.trial.now
    in let is = c.requires.ready.trial
    in let rest = numbers_of c.args.rest.now
    in let on = left-on trial c.args.span.v.0 rest c.requires.walk.left
    in let found = subst (λ n. slice_get trial.shape.now.levels n ≡ Some c.level_of-level.result.now)
    (sym (length-map c.args.rest.now (λ (v : Var). v.0))) c.level_of-level.ensures
    in let steps = subst (AreSteps (members_in trial) (length rest) false) (sym c.as_slice.ensures)
    (level-own trial is rest on c.level_of-level.result.now found)
    in read-own trial is (bound_room c.args.self.now.evaluator) (can-try-kin trial _ trial.number (own-kin trial is)
    c.requires.ready.rules) rest c.args.self.now.a
    c.as_slice.result.now c.args.span.v.0 c.requires.walk.left c.requires.walk.placed steps

pub walk_chunk-counted_all-own-requires-clause-along : goal.walk_chunk-counted_all-own-requires-clause-along
walk_chunk-counted_all-own-requires-clause-along t c = record {
  structure = c.requires.ready.structure;
  chunk = c.requires.chunk;
  long = (all-word c.args.trial.now.structure.now.size c.args.span.chunk c.places.result Yes c.of-all.result
      (c.places.ensures.value ∙ ap (λ n. min 64 (n - 64 * c.args.span.chunk)) c.size.ensures.size) c.requires.chunk
      c.of-all.ensures).long;
}

pub walk_chunk-going_on-alive-requires : goal.walk_chunk-going_on-alive-requires
walk_chunk-going_on-alive-requires t c =
    let trial = c.args.trial.now
    in let rest = numbers_of c.args.rest.now
    in let on = left-on trial c.args.span.v.0 rest c.requires.walk.left
    in let found = subst (λ n. slice_get trial.shape.now.levels n ≡ Some c.level_of-level.result.now)
    (sym (length-map c.args.rest.now (λ (x : Var). x.0))) c.level_of-level.ensures
    in record {
      long = (c.counted_all-own.ensures.counted (length rest) false (subst (AreSteps (members_in trial) (length rest) false)
          (sym c.as_slice.ensures) (level-own trial c.requires.ready.trial rest on c.level_of-level.result.now found))).long;
      words = λ word found. (c.requires.walk.narrowed (length c.args.rest.now) word found).1;
    }

pub walk_chunk-begun_with-begun-requires-clause-some : goal.walk_chunk-begun_with-begun-requires-clause-some
walk_chunk-begun_with-begun-requires-clause-some t c = c.going_on-alive.ensures.some c.in-Some.i c.in-Some.ensures.1 c.in-Some.ensures.2

pub walk_chunk-begun_with-begun-requires-clause-long : goal.walk_chunk-begun_with-begun-requires-clause-long
walk_chunk-begun_with-begun-requires-clause-long t c =
    let trial = c.args.trial.now
    in let rest = numbers_of c.args.rest.now
    in let on = left-on trial c.args.span.v.0 rest c.requires.walk.left
    in let found = subst (λ n. slice_get trial.shape.now.levels n ≡ Some c.level_of-level.result.now)
    (sym (length-map c.args.rest.now (λ (x : Var). x.0))) c.level_of-level.ensures
    in (
      c.requires.walk.long,
      (c.counted_all-own.ensures.counted (length rest) false (subst (AreSteps (members_in trial) (length rest) false)
          (sym c.as_slice.ensures) (level-own trial c.requires.ready.trial rest on c.level_of-level.result.now found))).long,
    )

pub walk_chunk-begun_with-begun-requires-clause-halved : goal.walk_chunk-begun_with-begun-requires-clause-halved
walk_chunk-begun_with-begun-requires-clause-halved t c = c.counted-halved.ensures ∙ ap (paired counted c.args.tail) c.of.ensures

pub walk_chunk-set-requires : goal.walk_chunk-set-requires
walk_chunk-set-requires t c =
    let trial = c.args.trial.now
    in let is = c.requires.ready.trial
    in let rest = numbers_of c.args.rest.now
    in rule-variable (arities_of trial.structure.now) (trial_rule trial)
    (can-try-kin trial _ trial.number (own-kin trial is) c.requires.ready.rules).over c.args.span.v.0
    (left-free trial is (c.args.span.v.0 ∷ rest) c.requires.walk.left c.args.span.v.0 (0, omega arith, refl))

pub walk_chunk-counted_by_row-word-requires-clause-along : goal.walk_chunk-counted_by_row-word-requires-clause-along
walk_chunk-counted_by_row-word-requires-clause-along t c = record {
  structure = (subst (IsReadyFor c.args.trial.now) (sym c.loop-i.invariant.0) c.requires.ready).structure;
  chunk = c.requires.walk.chunk;
  long = c.begun_with-begun.ensures.long;
}

pub walk_chunk-counted_by_row-word-requires-clause-can : goal.walk_chunk-counted_by_row-word-requires-clause-can
walk_chunk-counted_by_row-word-requires-clause-can t c =
    let trial = c.args.trial.now
    in let is = c.requires.ready.trial
    in let s = trial.structure.now
    in let ms = members_in trial
    in let vars = variables_in trial
    in let rest = numbers_of c.args.rest.now
    in let v = c.args.span.v.0
    in let k = c.args.span.chunk
    in let w = trial.last.0
    in let first = 64 * k
    in let a = c.args.self.now.a
    in let going = subst (λ n. IsGoingOn trial.later.now n c.args.tail c.counted_all-own.result c.going_on-alive.result)
    (sym (length-map c.args.rest.now (λ (x : Var). x.0))) c.going_on-alive.ensures
    in let on = left-on trial v rest c.requires.walk.left
    in let found = subst (λ n. slice_get trial.shape.now.levels n ≡ Some c.level_of-level.result.now)
    (sym (length-map c.args.rest.now (λ (x : Var). x.0))) c.level_of-level.ensures
    in let own = c.counted_all-own.ensures.counted (length rest) false (subst (AreSteps ms (length rest) false) (sym c.as_slice.ensures)
    (level-own trial is rest on c.level_of-level.result.now found))
    in let all = all-word s.size k c.places.result Yes c.of-all.result
    (c.places.ensures.value ∙ ap (λ n. min 64 (n - 64 * k)) c.size.ensures.size) c.requires.chunk c.of-all.ensures
    in let i = c.in-Some.i
    in let steps = subst (AreSteps ms (length rest) true) (sym c.as_slice-steps.ensures)
    (level-last trial is rest on c.level_of-level.result.now found)
    in let opens = going.some i c.in-Some.ensures.1 c.in-Some.ensures.2
    in let within = all.within i c.in-Some.ensures.1 (own.some i c.in-Some.ensures.1 opens)
    in let is-put = put-kept v (rest ++ w ∷ []) (first + i) a c.loop-i.self.a c.set.new.self c.loop-i.invariant.1
    c.set.ensures.places
    in read-last trial is (bound_room c.loop-i.self.evaluator)
    (can-try-kin trial _ trial.number (own-kin trial is)
    (subst (IsReadyFor trial) (sym c.loop-i.invariant.0) c.requires.ready).rules)
    rest c.set.new.self c.as_slice-steps.result.now on
    (put-placed v (rest ++ w ∷ []) s.size (trial_rule trial) (first + i) a c.set.new.self is-put within
    c.requires.walk.placed) steps

pub walk_chunk-walk-requires : goal.walk_chunk-walk-requires
walk_chunk-walk-requires t c =
    let trial = c.args.trial.now
    in let is = c.requires.ready.trial
    in let s = trial.structure.now
    in let ms = members_in trial
    in let vars = variables_in trial
    in let rest = numbers_of c.args.rest.now
    in let v = c.args.span.v.0
    in let k = c.args.span.chunk
    in let w = trial.last.0
    in let first = 64 * k
    in let a = c.args.self.now.a
    in let going = subst (λ n. IsGoingOn trial.later.now n c.args.tail c.counted_all-own.result c.going_on-alive.result)
    (sym (length-map c.args.rest.now (λ (x : Var). x.0))) c.going_on-alive.ensures
    in let on = left-on trial v rest c.requires.walk.left
    in let found = subst (λ n. slice_get trial.shape.now.levels n ≡ Some c.level_of-level.result.now)
    (sym (length-map c.args.rest.now (λ (x : Var). x.0))) c.level_of-level.ensures
    in let own = c.counted_all-own.ensures.counted (length rest) false (subst (AreSteps ms (length rest) false) (sym c.as_slice.ensures)
    (level-own trial is rest on c.level_of-level.result.now found))
    in let all = all-word s.size k c.places.result Yes c.of-all.result
    (c.places.ensures.value ∙ ap (λ n. min 64 (n - 64 * k)) c.size.ensures.size) c.requires.chunk c.of-all.ensures
    in let i = c.in-Some.i
    in let placed = c.set.new.self
    in let steps = subst (AreSteps ms (length rest) true) (sym c.as_slice-steps.ensures)
    (level-last trial is rest on c.level_of-level.result.now found)
    in let opens = going.some i c.in-Some.ensures.1 c.in-Some.ensures.2
    in let there : get_or c.counted_all-own.result i No ≢ No = opens
    in let some = own.some i c.in-Some.ensures.1 there
    in let within = all.within i c.in-Some.ensures.1 some
    in let is-put = put-kept v (rest ++ w ∷ []) (first + i) a c.loop-i.self.a placed c.loop-i.invariant.1
    c.set.ensures.places
    in let with-own : (length c.begun_with-begun.result ≡ 64)
    × ((j : ℕ) → j < 64 → get_or c.begun_with-begun.result j No ≡ counted (get_or c.args.tail j No) (get_or c.counted_all-own.result i No))
    = (c.begun_with-begun.ensures.long, c.begun_with-begun.ensures.each)
    in let start = walk-on trial is v rest a placed c.args.tail c.begun_with-begun.result c.counted_by_row-word.result (first + i)
    (get_or c.counted_all-own.result i No)
    c.requires.walk within is-put there
    (λ e. own-half s a v k ms (length rest) c.of-all.result c.counted_all-own.result all own i c.in-Some.ensures.1 within e)
    with-own (c.counted_by_row-word.ensures.counted (length rest) true steps)
    in let stays = c.counted_by_row-word.ensures.same ∙ c.loop-i.invariant.0
    in let passed = open-passed trial is v rest a c.args.tail c.requires.walk k c.of-all.result
    c.counted_all-own.result c.going_on-alive.result all own going c.requires.chunk c.loop-i.from i (omega (arith, c.in-Some.ensures.1))
    c.in-Some.ensures.3
    in (
      omega (arith, c.decreases),
      (
        subst (IsReadyFor trial) (sym stays) c.requires.ready,
        start,
      ),
    )

pub walk_chunk-returns-in_err-walk-clause-keeps : goal.walk_chunk-returns-in_err-walk-clause-keeps
walk_chunk-returns-in_err-walk-clause-keeps t c =
    kept-more c.args.span.v.0 (numbers_of c.args.rest.now ++ c.args.trial.now.last.0 ∷ []) (64 * c.args.span.chunk +
    c.in-Some.i) c.args.self.now.a c.loop-i.self.a
    c.set.new.self c.walk.new.self.a c.loop-i.invariant.1 c.set.ensures.places c.in_err-walk.ensures.keeps

pub walk_chunk-returns-then-has_more-clause-keeps : goal.walk_chunk-returns-then-has_more-clause-keeps
walk_chunk-returns-then-has_more-clause-keeps t c =
    kept-more c.args.span.v.0 (numbers_of c.args.rest.now ++ c.args.trial.now.last.0 ∷ []) (64 * c.args.span.chunk +
    c.in-Some.i) c.args.self.now.a c.loop-i.self.a
    c.set.new.self c.walk.new.self.a c.loop-i.invariant.1 c.set.ensures.places c.in_ok-walk.ensures.keeps

pub walk_chunk-returns-in-Impossible-clause-keeps : goal.walk_chunk-returns-in-Impossible-clause-keeps
walk_chunk-returns-in-Impossible-clause-keeps t c =
    kept-more c.args.span.v.0 (numbers_of c.args.rest.now ++ c.args.trial.now.last.0 ∷ []) (64 * c.args.span.chunk +
    c.in-Some.i) c.args.self.now.a c.loop-i.self.a
    c.set.new.self c.walk.new.self.a c.loop-i.invariant.1 c.set.ensures.places c.in_ok-walk.ensures.keeps

pub walk_chunk-returns-then-has_more-clause-told : goal.walk_chunk-returns-then-has_more-clause-told
walk_chunk-returns-then-has_more-clause-told t c =
    let trial = c.args.trial.now
    in let rest = numbers_of c.args.rest.now
    in let v = c.args.span.v.0
    in let k = c.args.span.chunk
    in let w = trial.last.0
    in let first = 64 * k
    in let a = c.args.self.now.a
    in let told = subst (IsTold trial (AreTriedFor trial (GoesOnIn trial (rest ++ w ∷ []) (assignment_of
    c.set.new.self))) c.loop-i.self.noted c.walk.new.self.noted)
    c.in-Possible.is c.in_ok-walk.ensures.told
    in told-some trial
    (AreTriedFor trial (λ b. GoesOnIn trial (v ∷ rest ++ w ∷ []) (assignment_of a) b × IsBetween v first (first + c.loop-i.from) b))
    (AreTriedFor trial (GoesOnIn trial (rest ++ w ∷ []) (assignment_of c.set.new.self)))
    (AreTriedFor trial (λ b. GoesOnIn trial (v ∷ rest ++ w ∷ []) (assignment_of a) b × IsInChunk v k b))
    c.args.self.now.noted c.loop-i.self.noted c.walk.new.self.noted c.loop-i.invariant.3 (c.if-has_more.ensures
    refl) told

pub walk_chunk-returns-in-Impossible-clause-told : goal.walk_chunk-returns-in-Impossible-clause-told
walk_chunk-returns-in-Impossible-clause-told t c =
    let trial = c.args.trial.now
    in let rest = numbers_of c.args.rest.now
    in let v = c.args.span.v.0
    in let k = c.args.span.chunk
    in let w = trial.last.0
    in let first = 64 * k
    in let a = c.args.self.now.a
    in let told = subst (IsTold trial (AreTriedFor trial (GoesOnIn trial (rest ++ w ∷ []) (assignment_of
    c.set.new.self))) c.loop-i.self.noted c.walk.new.self.noted)
    c.in-Impossible.is c.in_ok-walk.ensures.told
    in told-never trial
    (AreTriedFor trial (λ b. GoesOnIn trial (v ∷ rest ++ w ∷ []) (assignment_of a) b × IsBetween v first (first + c.loop-i.from) b))
    (AreTriedFor trial (GoesOnIn trial (rest ++ w ∷ []) (assignment_of c.set.new.self)))
    (AreTriedFor trial (λ b. GoesOnIn trial (v ∷ rest ++ w ∷ []) (assignment_of a) b × IsInChunk v k b))
    c.args.self.now.noted c.loop-i.self.noted c.walk.new.self.noted c.loop-i.invariant.3 told

pub walk_chunk-loop-i-preserved-else-has_more : goal.walk_chunk-loop-i-preserved-else-has_more
walk_chunk-loop-i-preserved-else-has_more t c =
    let trial = c.args.trial.now
    in let is = c.requires.ready.trial
    in let s = trial.structure.now
    in let ms = members_in trial
    in let vars = variables_in trial
    in let rest = numbers_of c.args.rest.now
    in let v = c.args.span.v.0
    in let k = c.args.span.chunk
    in let w = trial.last.0
    in let first = 64 * k
    in let a = c.args.self.now.a
    in let going = subst (λ n. IsGoingOn trial.later.now n c.args.tail c.counted_all-own.result c.going_on-alive.result)
    (sym (length-map c.args.rest.now (λ (x : Var). x.0))) c.going_on-alive.ensures
    in let on = left-on trial v rest c.requires.walk.left
    in let found = subst (λ n. slice_get trial.shape.now.levels n ≡ Some c.level_of-level.result.now)
    (sym (length-map c.args.rest.now (λ (x : Var). x.0))) c.level_of-level.ensures
    in let own = c.counted_all-own.ensures.counted (length rest) false (subst (AreSteps ms (length rest) false) (sym c.as_slice.ensures)
    (level-own trial is rest on c.level_of-level.result.now found))
    in let all = all-word s.size k c.places.result Yes c.of-all.result
    (c.places.ensures.value ∙ ap (λ n. min 64 (n - 64 * k)) c.size.ensures.size) c.requires.chunk c.of-all.ensures
    in let i = c.in-Some.i
    in let placed = c.set.new.self
    in let steps = subst (AreSteps ms (length rest) true) (sym c.as_slice-steps.ensures)
    (level-last trial is rest on c.level_of-level.result.now found)
    in let opens = going.some i c.in-Some.ensures.1 c.in-Some.ensures.2
    in let there : get_or c.counted_all-own.result i No ≢ No = opens
    in let some = own.some i c.in-Some.ensures.1 there
    in let within = all.within i c.in-Some.ensures.1 some
    in let is-put = put-kept v (rest ++ w ∷ []) (first + i) a c.loop-i.self.a placed c.loop-i.invariant.1
    c.set.ensures.places
    in let with-own : (length c.begun_with-begun.result ≡ 64)
    × ((j : ℕ) → j < 64 → get_or c.begun_with-begun.result j No ≡ counted (get_or c.args.tail j No) (get_or c.counted_all-own.result i No))
    = (c.begun_with-begun.ensures.long, c.begun_with-begun.ensures.each)
    in let start = walk-on trial is v rest a placed c.args.tail c.begun_with-begun.result c.counted_by_row-word.result (first + i)
    (get_or c.counted_all-own.result i No)
    c.requires.walk within is-put there
    (λ e. own-half s a v k ms (length rest) c.of-all.result c.counted_all-own.result all own i c.in-Some.ensures.1 within e)
    with-own (c.counted_by_row-word.ensures.counted (length rest) true steps)
    in let stays = c.counted_by_row-word.ensures.same ∙ c.loop-i.invariant.0
    in let passed = open-passed trial is v rest a c.args.tail c.requires.walk k c.of-all.result
    c.counted_all-own.result c.going_on-alive.result all own going c.requires.chunk c.loop-i.from i (omega (arith, c.in-Some.ensures.1))
    c.in-Some.ensures.3
    in let told = subst (IsTold trial (AreTriedFor trial (GoesOnIn trial (rest ++ w ∷ []) (assignment_of placed)))
    c.loop-i.self.noted c.walk.new.self.noted)
    c.in-Possible.is c.in_ok-walk.ensures.told
    in (
      c.in_ok-walk.ensures.same ∙ stays,
      kept-more v (rest ++ w ∷ []) (first + i) a c.loop-i.self.a placed c.walk.new.self.a c.loop-i.invariant.1
          c.set.ensures.places
          c.in_ok-walk.ensures.keeps,
      omega (arith, c.in-Some.ensures.1),
      told-both trial
          (AreTriedFor trial (λ b. GoesOnIn trial (v ∷ rest ++ w ∷ []) (assignment_of a) b × IsBetween v first (first + c.loop-i.from) b))
          (AreTriedFor trial (GoesOnIn trial (rest ++ w ∷ []) (assignment_of placed)))
          (AreTriedFor trial (λ b. GoesOnIn trial (v ∷ rest ++ w ∷ []) (assignment_of a) b × IsBetween v first (first + (i + 1)) b))
          c.args.self.now.noted c.loop-i.self.noted c.walk.new.self.noted c.loop-i.invariant.3
          (λ so_far tried n kin. tried-next s (rule_at trial.closed.now n) vars (kin-variable trial is n kin) v (rest ++ w ∷ []) w trial.chunk first
          c.loop-i.from i a placed c.loop-i.self.a c.loop-i.invariant.1 c.set.ensures.places (passed n kin) (so_far
          n kin) (tried n kin))
          told,
    )

pub walk_chunk-loop-i-preserved : goal.walk_chunk-loop-i-preserved
walk_chunk-loop-i-preserved t c =
    let trial = c.args.trial.now
    in let is = c.requires.ready.trial
    in let s = trial.structure.now
    in let ms = members_in trial
    in let vars = variables_in trial
    in let rest = numbers_of c.args.rest.now
    in let v = c.args.span.v.0
    in let k = c.args.span.chunk
    in let w = trial.last.0
    in let first = 64 * k
    in let a = c.args.self.now.a
    in let going = subst (λ n. IsGoingOn trial.later.now n c.args.tail c.counted_all-own.result c.going_on-alive.result)
    (sym (length-map c.args.rest.now (λ (x : Var). x.0))) c.going_on-alive.ensures
    in let on = left-on trial v rest c.requires.walk.left
    in let found = subst (λ n. slice_get trial.shape.now.levels n ≡ Some c.level_of-level.result.now)
    (sym (length-map c.args.rest.now (λ (x : Var). x.0))) c.level_of-level.ensures
    in let own = c.counted_all-own.ensures.counted (length rest) false (subst (AreSteps ms (length rest) false) (sym c.as_slice.ensures)
    (level-own trial is rest on c.level_of-level.result.now found))
    in let all = all-word s.size k c.places.result Yes c.of-all.result
    (c.places.ensures.value ∙ ap (λ n. min 64 (n - 64 * k)) c.size.ensures.size) c.requires.chunk c.of-all.ensures
    in let i = c.in-Some.i
    in let placed = c.set.new.self
    in let steps = subst (AreSteps ms (length rest) true) (sym c.as_slice-steps.ensures)
    (level-last trial is rest on c.level_of-level.result.now found)
    in let opens = going.some i c.in-Some.ensures.1 c.in-Some.ensures.2
    in let there : get_or c.counted_all-own.result i No ≢ No = opens
    in let some = own.some i c.in-Some.ensures.1 there
    in let within = all.within i c.in-Some.ensures.1 some
    in let is-put = put-kept v (rest ++ w ∷ []) (first + i) a c.loop-i.self.a placed c.loop-i.invariant.1
    c.set.ensures.places
    in let with-own : (length c.begun_with-begun.result ≡ 64)
    × ((j : ℕ) → j < 64 → get_or c.begun_with-begun.result j No ≡ counted (get_or c.args.tail j No) (get_or c.counted_all-own.result i No))
    = (c.begun_with-begun.ensures.long, c.begun_with-begun.ensures.each)
    in let start = walk-on trial is v rest a placed c.args.tail c.begun_with-begun.result c.counted_by_row-word.result (first + i)
    (get_or c.counted_all-own.result i No)
    c.requires.walk within is-put there
    (λ e. own-half s a v k ms (length rest) c.of-all.result c.counted_all-own.result all own i c.in-Some.ensures.1 within e)
    with-own (c.counted_by_row-word.ensures.counted (length rest) true steps)
    in let stays = c.counted_by_row-word.ensures.same ∙ c.loop-i.invariant.0
    in let passed = open-passed trial is v rest a c.args.tail c.requires.walk k c.of-all.result
    c.counted_all-own.result c.going_on-alive.result all own going c.requires.chunk c.loop-i.from i (omega (arith, c.in-Some.ensures.1))
    c.in-Some.ensures.3
    in (
      stays,
      kept-more v (rest ++ w ∷ []) (first + i) a c.loop-i.self.a placed placed c.loop-i.invariant.1
          c.set.ensures.places (λ x none. refl),
      omega (arith, c.in-Some.ensures.1),
      told-both trial
          (AreTriedFor trial (λ b. GoesOnIn trial (v ∷ rest ++ w ∷ []) (assignment_of a) b × IsBetween v first (first + c.loop-i.from) b))
          (AreTriedFor trial (GoesOnIn trial (rest ++ w ∷ []) (assignment_of placed)))
          (AreTriedFor trial (λ b. GoesOnIn trial (v ∷ rest ++ w ∷ []) (assignment_of a) b × IsBetween v first (first + (i + 1)) b))
          c.args.self.now.noted c.loop-i.self.noted c.loop-i.self.noted c.loop-i.invariant.3
          (λ so_far tried n kin. tried-next s (rule_at trial.closed.now n) vars (kin-variable trial is n kin) v (rest ++ w ∷ []) w trial.chunk first
          c.loop-i.from i a placed c.loop-i.self.a c.loop-i.invariant.1 c.set.ensures.places (passed n kin) (so_far
          n kin) (tried n kin))
          (told-tried trial (AreTriedFor trial (GoesOnIn trial (rest ++ w ∷ []) (assignment_of placed)))
          c.loop-i.self.noted
          (none-left trial is rest placed c.counted_by_row-word.result start
          (subst (λ x. x ≡ No) c.greatest.ensures c.if-not-is_no.ensures))),
    )

pub walk_chunk-returns-clause-told : goal.walk_chunk-returns-clause-told
walk_chunk-returns-clause-told t c =
    let trial = c.args.trial.now
    in let is = c.requires.ready.trial
    in let s = trial.structure.now
    in let ms = members_in trial
    in let vars = variables_in trial
    in let rest = numbers_of c.args.rest.now
    in let v = c.args.span.v.0
    in let k = c.args.span.chunk
    in let w = trial.last.0
    in let first = 64 * k
    in let a = c.args.self.now.a
    in let going = subst (λ n. IsGoingOn trial.later.now n c.args.tail c.counted_all-own.result c.going_on-alive.result)
    (sym (length-map c.args.rest.now (λ (x : Var). x.0))) c.going_on-alive.ensures
    in let on = left-on trial v rest c.requires.walk.left
    in let found = subst (λ n. slice_get trial.shape.now.levels n ≡ Some c.level_of-level.result.now)
    (sym (length-map c.args.rest.now (λ (x : Var). x.0))) c.level_of-level.ensures
    in let own = c.counted_all-own.ensures.counted (length rest) false (subst (AreSteps ms (length rest) false) (sym c.as_slice.ensures)
    (level-own trial is rest on c.level_of-level.result.now found))
    in let all = all-word s.size k c.places.result Yes c.of-all.result
    (c.places.ensures.value ∙ ap (λ n. min 64 (n - 64 * k)) c.size.ensures.size) c.requires.chunk c.of-all.ensures
    in let steps = subst (AreSteps ms (length rest) true) (sym c.as_slice-steps.ensures)
    (level-last trial is rest on c.level_of-level.result.now found)
    in let passed = open-passed trial is v rest a c.args.tail c.requires.walk k c.of-all.result
    c.counted_all-own.result c.going_on-alive.result all own going c.requires.chunk c.loop-i.from 64 (omega arith) c.in_default.ensures
    in told-both trial
    (AreTriedFor trial (λ b. GoesOnIn trial (v ∷ rest ++ w ∷ []) (assignment_of a) b × IsBetween v first (first + c.loop-i.from) b))
    (AreTriedFor trial (λ b. GoesOnIn trial (v ∷ rest ++ w ∷ []) (assignment_of a) b × IsBetween v (first + c.loop-i.from) (first + 64) b))
    (AreTriedFor trial (λ b. GoesOnIn trial (v ∷ rest ++ w ∷ []) (assignment_of a) b × IsInChunk v k b))
    c.args.self.now.noted c.loop-i.self.noted c.loop-i.self.noted c.loop-i.invariant.3
    (λ so_far others n kin. tried-rest s (rule_at trial.closed.now n) vars (kin-variable trial is n kin) v first (first + c.loop-i.from) (first + 64)
    (GoesOnIn trial (v ∷ rest ++ w ∷ []) (assignment_of a))
    (GoesOnIn trial (v ∷ rest ++ w ∷ []) (assignment_of a)) (λ b goes. goes) (others n kin) (so_far n kin))
    (told-tried trial (AreTriedFor trial (λ b. GoesOnIn trial (v ∷ rest ++ w ∷ []) (assignment_of a) b
    × IsBetween v (first + c.loop-i.from) (first + 64) b))
    c.loop-i.self.noted passed)
