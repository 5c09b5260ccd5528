-- A further individual that is dropped may be any number that stands nowhere.
use Rattle.std.proofs.Common.{ℕ, ◌≡◌, ◌≢◌, ◌⊎◌, ◌↔◌, List, [], ◌∷◌, ◌++◌, map, Option, Some, None, Bool, true}
use Rattle.std.proofs.Common.{false, All, Contains, IsTrue, inl, inr, ⊎_elim, refl, sym, ap, subst, ◌∙◌}
use Rattle.std.proofs.Common.{length, ◌<◌, ◌≤◌, ◌+◌, zero, suc, slice_index, Result, Ok, Err, IfOk, arith}
use Rattle.std.proofs.lemmas.Bool.{cases_eq, cases_lt, false≢true}
use Rattle.std.proofs.lemmas.List.Elements.{All-head, All-tail, Contains-append_left, Contains-append_right}
use Rattle.std.proofs.lemmas.Option.{same_Some}
use Rattle.tv_model.specs.declared.program.Mode.{Mode}
use Rattle.tv_model.specs.declared.program.Mode.TheVariants.{Given, Recompute}
use Rattle.tv_model.specs.Form.{Form}
use Rattle.tv_model.specs.Heap.{Heap, Holds}
use Rattle.tv_model.specs.Program.{ProgramForm, ActionForm, RetainForm, UpdateForm, ChangeForm, CFree, CTo}
use Rattle.tv_model.specs.Rules.{IsHeap}
use Rattle.tv_model.specs.Step.{with_new, IsMiddle, Keeps, update_for, AllowsChange, FollowsUpdate}
use Rattle.tv_model.specs.Step.{StepsThrough, AgreesWithGiven, FairlySteps, IsFairThrough}
use Rattle.tv_model.specs.Truth.{Assignment, Truth, put, put_all}
use Rattle.tv_model.proofs.Assignments.{put-holds, put-matched, map-images}
use Rattle.tv_model.proofs.Assignments.{swap, swap-first, swap-rest, swap-second, swap-twice}
use Rattle.tv_model.proofs.Decided.{Contains-decided}
use Rattle.tv_model.proofs.Lists.{pushed-cases, pushed-old, pushed-last}
use Rattle.tv_model.proofs.Programs.{holds-individuals}
use Rattle.tv_model.proofs.Truths.{Matched, Truth-matched}
use Rattle.tv_fair.specs.Candidates.{Suffice}

pub differs : (xs : List ℕ) (u w : ℕ) → ¬ Contains xs u → Contains xs w → w ≢ u
differs xs u w out at e = let In : ℕ → Type 0 = λ x. Contains xs x in out (subst In e at)

pub fixed : (xs : List ℕ) (u m w : ℕ) → ¬ Contains xs u → ¬ Contains xs m → Contains xs w → swap u m w ≡ w
fixed xs u m w nu nm at = swap-rest u m w (differs xs u w nu at) (differs xs m w nm at)

pub swapped-there : (xs : List ℕ) (u m w : ℕ) → ¬ Contains xs u → ¬ Contains xs m
    → Contains (xs ++ u ∷ []) w → Contains (xs ++ m ∷ []) (swap u m w)
swapped-there xs u m w nu nm at =
    ⊎_elim
    (λ old. let In : ℕ → Type 0 = λ y. Contains (xs ++ m ∷ []) y
    in subst In (sym (fixed xs u m w nu nm old)) (pushed-old xs m w old))
    (λ e. pushed-last xs m (swap u m w) (swap-first u m w e))
    (pushed-cases xs u w at)

pub swapped-back : (xs : List ℕ) (u m w : ℕ) → ¬ Contains xs u → ¬ Contains xs m
    → Contains (xs ++ m ∷ []) (swap u m w) → Contains (xs ++ u ∷ []) w
swapped-back xs u m w nu nm at =
    ⊎_elim
    (λ old. let same : swap u m w ≡ w = sym (fixed xs u m (swap u m w) nu nm old) ∙ swap-twice u m w
    in let In : ℕ → Type 0 = λ y. Contains xs y in pushed-old xs u w (subst In same old))
    (λ e. pushed-last xs u w (sym (swap-twice u m w) ∙ swap-second u m (swap u m w) e))
    (pushed-cases xs m (swap u m w) at)

pub fixed-tuple : (xs : List ℕ) (u m : ℕ) → ¬ Contains xs u → ¬ Contains xs m → (us : List ℕ) → All (Contains xs) us
    → map (swap u m) us ≡ us
fixed-tuple xs u m nu nm [] all = refl
fixed-tuple xs u m nu nm (w ∷ us) all =
    let head : swap u m w ≡ w = fixed xs u m w nu nm (All-head (Contains xs) w us all)
    in let tail : map (swap u m) us ≡ us = fixed-tuple xs u m nu nm us (All-tail (Contains xs) w us all)
    in ap (λ y. y ∷ map (swap u m) us) head ∙ ap (λ ys. w ∷ ys) tail

pub swap-tuple_twice : (u m : ℕ) (us : List ℕ) → map (swap u m) (map (swap u m) us) ≡ us
swap-tuple_twice u m [] = refl
swap-tuple_twice u m (w ∷ us) =
    ap (λ y. y ∷ map (swap u m) (map (swap u m) us)) (swap-twice u m w) ∙ ap (λ ys. w ∷ ys) (swap-tuple_twice u m us)

pub holds-alike : (p : ProgramForm) (old : Heap) → IsHeap p old → (u m : ℕ) → ¬ Contains old.individuals u
    → ¬ Contains old.individuals m
    → (q : ℕ) (us : List ℕ) → Holds (with_new old u) q us ↔ Holds (with_new old m) q (map (swap u m) us)
holds-alike p old is u m nu nm q us =
    let Held : List ℕ → Type 0 = λ ws. Holds old q ws
    in let stays : (ws : List ℕ) → Holds old q ws → map (swap u m) ws ≡ ws =
    λ ws at. fixed-tuple old.individuals u m nu nm ws (holds-individuals p old is q ws at)
    in (
      λ at. subst Held (sym (stays us at)) at,
      λ at. subst Held (sym (stays (map (swap u m) us) at) ∙ swap-tuple_twice u m us) at,
    )

-- the assignment gives no individual that the renaming moves
abbrev pub IsFixed : (ℕ → ℕ) → Assignment → Type 0
IsFixed r a = (v : ℕ) → a v ≡ r (a v)

pub put-fixed : (r : ℕ → ℕ) (a : Assignment) (v u : ℕ) → IsFixed r a → u ≡ r u → IsFixed r (put a v u)
put-fixed r a v u is e = put-holds (λ x y. y ≡ r y) a v u e (λ x ne. is x)

pub put_all-fixed : (r : ℕ → ℕ) (vars us : List ℕ) (a : Assignment) → IsFixed r a → map r us ≡ us
    → IsFixed r (put_all a vars us)
put_all-fixed r [] us a is e = is
put_all-fixed r (v ∷ vars) [] a is e = is
put_all-fixed r (v ∷ vars) (u ∷ us) a is e =
    put_all-fixed r vars us (put a v u) (put-fixed r a v u is (cc e)) (cc e)

-- what carries a step through one middle heap to the other
pub record Exchange (p : ProgramForm) (old new : Heap) (picked : Assignment) (u m : ℕ) : Type 0 where
  pub is : IsHeap p old
  pub u_not_old : ¬ Contains old.individuals u
  pub m_not_old : ¬ Contains old.individuals m
  pub u_not_new : ¬ Contains new.individuals u
  pub m_not_new : ¬ Contains new.individuals m
  pub picked_stays : IsFixed (swap u m) picked

-- the swap matches the individuals of the one middle heap with those of the other
pub swap-matches : (p : ProgramForm) (old new : Heap) (picked : Assignment) (u m : ℕ) → Exchange p old new picked u m
    → Matched (λ q. Unit {0}) (Unit {0}) (λ x y. y ≡ swap u m x) (with_new old u) (with_new old m)
swap-matches p old new picked u m x = record {
  there = λ w at. (swap u m w, swapped-there old.individuals u m w x.u_not_old x.m_not_old at, refl);
  back = λ w at. (
    swap u m w,
    swapped-back old.individuals u m (swap u m w) x.u_not_old x.m_not_old
        (subst (Contains (old.individuals ++ m ∷ [])) (sym (swap-twice u m w)) at),
    sym (swap-twice u m w),
  );
  members = λ w y e. (
    λ at. subst (Contains (old.individuals ++ m ∷ [])) (sym e)
        (swapped-there old.individuals u m w x.u_not_old x.m_not_old at),
    λ at. swapped-back old.individuals u m w x.u_not_old x.m_not_old
        (subst (Contains (old.individuals ++ m ∷ [])) e at),
  );
  atoms = λ q s vars a b agrees.
      subst (λ us. Holds old q (map a vars) ↔ Holds old q us)
      (map-images (swap u m) a b vars (λ v at. sym (agrees v at)))
      (holds-alike p old x.is u m x.u_not_old x.m_not_old q (map a vars));
  same = λ v w y z e d. (
    λ s. e ∙ ap (swap u m) s ∙ sym d,
    λ s. sym (swap-twice u m v) ∙ ap (swap u m) (sym e ∙ s ∙ d) ∙ swap-twice u m w,
  );
  marks = λ s w y e. (
    λ t. ap (λ (z : ℕ). Some z) (sym (e ∙ swap-first u m w (sym (same_Some u w t)))),
    λ t. ap (λ (z : ℕ). Some z) (sym (sym (swap-twice u m w)
        ∙ swap-second u m (swap u m w) (sym e ∙ sym (same_Some m y t)))),
  );
}

pub exchanged-truth : (p : ProgramForm) (old new : Heap) (picked : Assignment) (u m : ℕ) → Exchange p old new picked u m
    → (a b : Assignment) (f : Form) → ((v : ℕ) → b v ≡ swap u m (a v))
    → Truth (with_new old u) a f ↔ Truth (with_new old m) b f
exchanged-truth p old new picked u m x a b f agrees =
    Truth-matched (λ q. Unit {0}) (Unit {0}) (λ y z. z ≡ swap u m y) (with_new old u) (with_new old m)
    (swap-matches p old new picked u m x) a b f (λ q s. tt) (λ s. tt) (λ v s. agrees v)

pub exchanged-keeps : (p : ProgramForm) (old new : Heap) (picked : Assignment) (u m : ℕ) → Exchange p old new picked u m
    → (retain : Option RetainForm) (w : ℕ)
    → Keeps (with_new old u) picked retain w ↔ Keeps (with_new old m) picked retain (swap u m w)
exchanged-keeps p old new picked u m x None w = (λ t. t, λ t. t)
exchanged-keeps p old new picked u m x (Some retain) w =
    exchanged-truth p old new picked u m x (put picked retain.var w) (put picked retain.var (swap u m w)) retain.keep
    (λ v. put-matched (λ y. Unit {0}) (λ y z. z ≡ swap u m y) picked picked retain.var w (swap u m w) refl
    (λ y s. x.picked_stays y) v tt)

pub exchanged-change : (p : ProgramForm) (old new : Heap) (picked : Assignment) (u m : ℕ)
    → Exchange p old new picked u m
    → (vars : List ℕ) (change : ChangeForm) (us : List ℕ) (holds : Type 0) → All (Contains new.individuals) us
    → AllowsChange (with_new old u) picked vars change us holds
    → AllowsChange (with_new old m) picked vars change us holds
exchanged-change p old new picked u m x vars CFree us holds all allows = allows
exchanged-change p old new picked u m x vars (CTo f) us holds all allows =
    let same : Truth (with_new old u) (put_all picked vars us) f ↔ Truth (with_new old m) (put_all picked vars us) f =
    exchanged-truth p old new picked u m x (put_all picked vars us) (put_all picked vars us) f
    (put_all-fixed (swap u m) vars us picked x.picked_stays
    (fixed-tuple new.individuals u m x.u_not_new x.m_not_new us all))
    in (λ t. same.0 (allows.0 t), λ t. allows.1 (same.1 t))

pub exchanged-update : (p : ProgramForm) (old new : Heap) (picked : Assignment) (u m : ℕ)
    → Exchange p old new picked u m
    → (q : ℕ) (update : Option UpdateForm) (us : List ℕ) → All (Contains new.individuals) us
    → FollowsUpdate q (with_new old u) picked update us new → FollowsUpdate q (with_new old m) picked update us new
exchanged-update p old new picked u m x q None us all follows = follows
exchanged-update p old new picked u m x q (Some w) us all follows =
    exchanged-change p old new picked u m x w.vars w.change us (Holds new q us) all follows

-- a kept individual is neither of the two
pub exchanged-kept : (p : ProgramForm) (old new : Heap) (picked : Assignment) (u m : ℕ) → Exchange p old new picked u m
    → (retain : Option RetainForm)
    → ((w : ℕ) → Contains new.individuals w ↔ (Contains (with_new old u).individuals w
    × Keeps (with_new old u) picked retain w))
    → (w : ℕ) → Contains new.individuals w ↔ (Contains (with_new old m).individuals w
    × Keeps (with_new old m) picked retain w)
exchanged-kept p old new picked u m x retain keeps w =
    let stays : (y : ℕ) → Contains new.individuals y
    → swap u m y ≡ y = λ y at. fixed new.individuals u m y x.u_not_new x.m_not_new at
    in let Kept : ℕ → Type 0 = λ y. Contains (with_new old m).individuals y × Keeps (with_new old m) picked retain y
    in let In : ℕ → Type 0 = λ y. Contains new.individuals y
    in let there : (y : ℕ) → Contains (with_new old u).individuals y × Keeps (with_new old u) picked retain y
    → Kept (swap u m y) =
    λ y both. (
      swapped-there old.individuals u m y x.u_not_old x.m_not_old both.0,
      (exchanged-keeps p old new picked u m x retain y).0 both.1,
    )
    in let back : (y : ℕ) → Kept (swap u m y) → Contains new.individuals y =
    λ y both. (keeps y).1 (
      swapped-back old.individuals u m y x.u_not_old x.m_not_old both.0,
      (exchanged-keeps p old new picked u m x retain y).1 both.1,
    )
    in (
      λ at. subst Kept (stays w at) (there w ((keeps w).0 at)),
      λ both. let at : Contains new.individuals (swap u m w) = back (swap u m w)
          (subst Kept (sym (swap-twice u m w)) both)
          in subst In (sym (stays (swap u m w) at) ∙ swap-twice u m w) at,
    )

pub is-middle : (fresh : Bool) (old : Heap) (m : ℕ) → fresh ≡ true → ¬ Contains old.individuals m
    → IsMiddle fresh old (with_new old m)
is-middle true old m e out = (m, out, refl)
is-middle false old m e out = absurd (false≢true e)

pub exchanged-step : (p : ProgramForm) (action : ActionForm) (old new : Heap) (picked : Assignment) (u m : ℕ)
    → Exchange p old new picked u m
    → action.fresh ≡ true
    → StepsThrough p action picked old (with_new old u) new → StepsThrough p action picked old (with_new old m) new
exchanged-step p action old new picked u m x fresh step = record {
  old_heap = step.old_heap;
  picks_individuals = step.picks_individuals;
  precondition = step.precondition;
  is_middle = is-middle action.fresh old m fresh x.m_not_old;
  keeps = exchanged-kept p old new picked u m x action.retain step.keeps;
  core = λ q d found core us fits. exchanged-update p old new picked u m x q (update_for q action.updates) us fits.1
      (step.core q d found core us fits);
  new_heap = step.new_heap;
  concrete = step.concrete;
}

pub exchanged-given : (p : ProgramForm) (mode : Mode) (action : ActionForm) (old new : Heap) (picked : Assignment)
    (u m : ℕ) → Exchange p old new picked u m
    → AgreesWithGiven p mode action picked (with_new old u) new
    → AgreesWithGiven p mode action picked (with_new old m) new
exchanged-given p Recompute action old new picked u m x given = given
exchanged-given p Given action old new picked u m x given =
    λ q d found defined w is us fits. exchanged-change p old new picked u m x w.vars w.change us (Holds new q us) fits.1
    (given q d found defined w is us fits)

pub exchanged : (p : ProgramForm) (mode : Mode) (action : ActionForm) (picked : Assignment) (old new : Heap)
    (u m : ℕ) → Exchange p old new picked u m
    → action.fresh ≡ true
    → IsFairThrough p mode action picked old (with_new old u) new
    → IsFairThrough p mode action picked old (with_new old m) new
exchanged p mode action picked old new u m x fresh fair = record {
  step = exchanged-step p action old new picked u m x fresh fair.step;
  given = exchanged-given p mode action old new picked u m x fair.given;
  old_meets = fair.old_meets;
  new_meets = fair.new_meets;
}

-- all values of the variables so far, and the value of what is no variable
abbrev pub ValuesSoFar : List ℕ → Assignment → ℕ → Type 0
ValuesSoFar xs a n = Contains xs 0 × ((v : ℕ) → v < n → Contains xs (a v))

pub values-more : (xs ys : List ℕ) (a : Assignment) (n x : ℕ) → ys ≡ xs ++ x ∷ [] → x ≡ a n → ValuesSoFar xs a n
    → ValuesSoFar ys a (n + 1)
values-more xs ys a n x grown is before =
    let Of : List ℕ → Type 0 = λ zs. ValuesSoFar zs a (n + 1)
    in let one : (v : ℕ) → v < n + 1 → (v ≡ n) ⊎ (v ≢ n) → Contains (xs ++ x ∷ []) (a v) =
    λ v below cases. ⊎_elim
    (λ e. pushed-last xs x (a v) (ap a e ∙ sym is))
    (λ ne. pushed-old xs x (a v) (before.1 v (omega (arith, below, ne))))
    cases
    in subst Of (sym grown) (pushed-old xs x 0 before.0, λ v below. one v below (cases_eq v n))

pub read-past : (xs : List ℕ) (i : ℕ) → length xs ≤ i → slice_index xs i ≡ 0
read-past [] i past = refl
read-past (x ∷ xs) zero past = absurd (omega (arith, past))
read-past (x ∷ xs) (suc i) past = read-past xs i (omega (arith, past))

pub values-all : (xs places : List ℕ) (n : ℕ) → length places ≤ n → ValuesSoFar xs (λ v. slice_index places v) n
    → (v : ℕ) → Contains xs (slice_index places v)
values-all xs places n long so_far v =
    let In : ℕ → Type 0 = λ x. Contains xs x
    in ⊎_elim
    (λ below. so_far.1 v below)
    (λ past. subst In (sym (read-past places v (omega (arith, past, long)))) so_far.0)
    (cases_lt v n)

pub middle-of : (fresh : Bool) (old middle : Heap) → fresh ≡ true → IsMiddle fresh old middle
    → (u : ℕ) × (¬ Contains old.individuals u) × (middle ≡ with_new old u)
middle-of true old middle e is = is
middle-of false old middle e is = absurd (false≢true e)

pub middle-is_old : (fresh : Bool) (old middle : Heap) → fresh ≡ false → IsMiddle fresh old middle → middle ≡ old
middle-is_old true old middle e is = absurd (false≢true (sym e))
middle-is_old false old middle e is = is

-- without a further individual the old heap is the middle
pub fair-by_old : (p : ProgramForm) (mode : Mode) (action : ActionForm) (picked : Assignment) (old new : Heap)
    → action.fresh ≡ false
    → IsFairThrough p mode action picked old old new ↔ FairlySteps p mode action picked old new
fair-by_old p mode action picked old new fresh =
    let Through : Heap → Type 0 = λ middle. IsFairThrough p mode action picked old middle new
    in (
      λ t. (old, t),
      λ fair. subst Through (middle-is_old action.fresh old fair.0 fresh fair.1.step.is_middle) fair.1,
    )

-- with one, some number to try makes the middle
pub fair-by_candidates : (p : ProgramForm) (mode : Mode) (action : ActionForm) (picked : Assignment)
    (old new : Heap) (us : List ℕ)
    → action.fresh ≡ true → Suffice us old new picked
    → ((u : ℕ) × Contains us u × IsFairThrough p mode action picked old (with_new old u) new)
    ↔ FairlySteps p mode action picked old new
fair-by_candidates p mode action picked old new us fresh enough =
    (λ some. (with_new old some.0, some.2), λ fair. found fair)
  where
    Through : Heap → Type 0
    Through middle = IsFairThrough p mode action picked old middle new

    at-one : (u : ℕ) → ¬ Contains old.individuals u → Through (with_new old u) → Contains us u ⊎ (¬ Contains us u)
        → (w : ℕ) × Contains us w × Through (with_new old w)
    at-one u away fair (inl at) = (u, at, fair)
    at-one u away fair (inr out) =
        let x : Exchange p old new picked u enough.further.0 = record {
          is = fair.step.old_heap;
          u_not_old = away;
          m_not_old = enough.further.2;
          u_not_new = λ at. out (enough.of_new u at);
          m_not_new = enough.further.3;
          picked_stays = λ v. sym (swap-rest u enough.further.0 (picked v)
              (differs us u (picked v) out (enough.of_picked v)) (enough.further.4 v));
        }
        in (enough.further.0, enough.further.1, exchanged p mode action picked old new u enough.further.0 x fresh fair)

    found : FairlySteps p mode action picked old new → (w : ℕ) × Contains us w × Through (with_new old w)
    found fair =
        let middle : (u : ℕ) × (¬ Contains old.individuals u)
        × (fair.0 ≡ with_new old u) = middle-of action.fresh old fair.0 fresh fair.1.step.is_middle
        in at-one middle.0 middle.1 (subst Through middle.2 fair.1) (Contains-decided us middle.0)

pub old-answer : {E : Type 0} (p : ProgramForm) (mode : Mode) (action : ActionForm) (picked : Assignment)
    (old new : Heap) → action.fresh ≡ false
    → (r : Result Bool E) → IfOk r (λ b. IsTrue b ↔ IsFairThrough p mode action picked old old new)
    → IfOk r (λ b. IsTrue b ↔ FairlySteps p mode action picked old new)
old-answer p mode action picked old new fresh (Ok b) is =
    let same : IsFairThrough p mode action picked old old new
    ↔ FairlySteps p mode action picked old new = fair-by_old p mode action picked old new fresh
    in (λ t. same.0 (is.0 t), λ q. is.1 (same.1 q))
old-answer p mode action picked old new fresh (Err e) is = is

pub candidates-answer : {E : Type 0} (p : ProgramForm) (mode : Mode) (action : ActionForm) (picked : Assignment)
    (old new : Heap) (us ws : List ℕ)
    → action.fresh ≡ true → us ≡ ws → Suffice ws old new picked
    → (r : Result Bool E) → IfOk r (λ b. IsTrue b
    ↔ ((u : ℕ) × Contains us u × IsFairThrough p mode action picked old (with_new old u) new))
    → IfOk r (λ b. IsTrue b ↔ FairlySteps p mode action picked old new)
candidates-answer p mode action picked old new us ws fresh eq enough (Ok b) is =
    let Enough : List ℕ → Type 0 = λ xs. Suffice xs old new picked
    in let same : ((u : ℕ) × Contains us u × IsFairThrough p mode action picked old (with_new old u) new)
    ↔ FairlySteps p mode action picked old new =
    fair-by_candidates p mode action picked old new us fresh (subst Enough (sym eq) enough)
    in (λ t. same.0 (is.0 t), λ q. is.1 (same.1 q))
candidates-answer p mode action picked old new us ws fresh eq enough (Err e) is = is

-- the values, the individuals of both heaps and a number that is none of them
pub candidates-suffice : (values with_old with_both taken all : List ℕ) (old new : Heap) (picked : Assignment) (m : ℕ)
    → with_old ≡ values ++ old.individuals → with_both ≡ with_old ++ new.individuals → taken ≡ with_both
    → all ≡ with_both ++ m ∷ []
    → ((v : ℕ) → Contains values (picked v)) → ¬ Contains taken m → Suffice all old new picked
candidates-suffice values with_old with_both taken all old new picked m eo eb et ea values_in unused =
    let from_both : (u : ℕ) → Contains with_both u → Contains all u =
    λ u at. let Of : List ℕ → Type 0 = λ xs. Contains xs u in subst Of (sym ea) (pushed-old with_both m u at)
    in let from_old : (u : ℕ) → Contains with_old u → Contains with_both u =
    λ u at. let Of : List ℕ → Type 0 = λ xs. Contains xs u
    in subst Of (sym eb) (Contains-append_left with_old new.individuals u at)
    in let of_new : (u : ℕ) → Contains new.individuals u → Contains with_both u =
    λ u at. let Of : List ℕ → Type 0 = λ xs. Contains xs u
    in subst Of (sym eb) (Contains-append_right with_old new.individuals u at)
    in let of_old : (u : ℕ) → Contains old.individuals u → Contains with_old u =
    λ u at. let Of : List ℕ → Type 0 = λ xs. Contains xs u
    in subst Of (sym eo) (Contains-append_right values old.individuals u at)
    in let of_values : (u : ℕ) → Contains values u → Contains with_old u =
    λ u at. let Of : List ℕ → Type 0 = λ xs. Contains xs u
    in subst Of (sym eo) (Contains-append_left values old.individuals u at)
    in let unused_in_both : ¬ Contains with_both m = let Of : List ℕ → Type 0 = λ xs. ¬ Contains xs m
    in subst Of et unused
    in let last : Contains all m = let Of : List ℕ → Type 0 = λ xs. Contains xs m
    in subst Of (sym ea) (pushed-last with_both m m refl)
    in let In : ℕ → Type 0 = λ x. Contains with_both x
    in record {
      of_new = λ u at. from_both u (of_new u at);
      of_picked = λ v. from_both (picked v) (from_old (picked v) (of_values (picked v) (values_in v)));
      further = (
        m,
        last,
        λ at. unused_in_both (from_old m (of_old m at)),
        λ at. unused_in_both (of_new m at),
        λ v e. unused_in_both (subst In e (from_old (picked v) (of_values (picked v) (values_in v)))),
      );
    }
