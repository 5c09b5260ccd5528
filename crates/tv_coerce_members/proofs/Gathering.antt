-- How the steps of a level are gathered.
use Rattle.std.proofs.Common.{ℕ, zero, suc, ◌≡◌, ◌<◌, ◌≤◌, ◌+◌, ◌⊎◌, ◌∙◌, Bool, true, false, List, [], ◌∷◌}
use Rattle.std.proofs.Common.{◌++◌}
use Rattle.std.proofs.Common.{length, get_or, Option, Some, slice_get, inl, inr, ⊎_elim, refl, sym, ap, subst}
use Rattle.std.proofs.Common.{arith}
use Rattle.std.specs.Prelude.{All, Any, IsSomeAnd}
use Rattle.std.proofs.lemmas.List.{length-append}
use Rattle.std.proofs.lemmas.List.Elements.{All-nil, All-push}
use Rattle.std.proofs.lemmas.List.Quantifiers.{Any-push}
use Rattle.std.proofs.lemmas.Bool.{cases_lt}
use Rattle.std.proofs.lemmas.Grind.{common_steps}
use Rattle.std.proofs.lemmas.Option.{same_Some, slice_get-get_or, slice_get_within}
use Rattle.tv_coerce_members.specs.Members.{AreApart, AreLevels, AreSteps, IsStepOf, IsSteppedBy, MemberForm}
use Rattle.tv_coerce_members.specs.Members.{is_literal}
use Rattle.tv_coerce_members.specs.Pushing.{ArePushed, IsStepAmong, IsTestedAt, is_other}
use Rattle.tv_coerce_members.specs.declared.levels.Level.{Level}
use Rattle.tv_coerce_members.specs.declared.levels.Step.{Step}

any-kept : {X : Type 0} (P : X → Type 0) (xs : List X) (y : X) → Any P xs → Any P (xs ++ y ∷ [])
any-kept {X} P xs y any =
    let k : ℕ = any.0
    in let x : X = any.1
    in let below : k < length xs = any.2
    in let is : get_or xs k x ≡ x = any.3
    in (k, x, grind (arith, common_steps), grind (arith, common_steps), any.4)

pushed-at : {X : Type 0} (xs : List X) (y : X) (k : ℕ) (x : X) → slice_get (xs ++ y ∷ []) k ≡ Some x
    → (slice_get xs k ≡ Some x) ⊎ ((k ≡ length xs) × (y ≡ x))
pushed-at [] y zero x at = inr (refl, cc at)
pushed-at [] y (suc k) x at = absurd (cc at)
pushed-at (z ∷ xs) y zero x at = inl at
pushed-at (z ∷ xs) y (suc k) x at =
    ⊎_elim (λ before. inl before) (λ new. inr (ap suc new.0, new.1)) (pushed-at xs y k x at)

get_or-at : {X : Type 0} (xs : List X) (k : ℕ) (x d : X) → slice_get xs k ≡ Some x → get_or xs k d ≡ x
get_or-at xs k x d found = same_Some (get_or xs k d) x (sym (slice_get-get_or xs k d (slice_get_within xs k x found)) ∙ found)

-- the step of one member is put behind the others
pub one-pushed : (ms : List MemberForm) (left : ℕ) (last other : Bool) (k : ℕ) (m : MemberForm) (st : Step) (old new : List Step)
    → slice_get ms k ≡ Some m → IsTestedAt left last other m → st.member ≡ k → m.reading ≡ st.reading
    → is_literal m.form ≡ st.literal → new ≡ old ++ st ∷ [] → ArePushed ms left last other k (k + 1) old new
one-pushed ms left last other k m st old new at tested number read literal put = record {
  each = λ all. subst (All (IsStepOf ms left last)) (sym put) (All-push (IsStepOf ms left last) old st all here);
  kept = λ j was. subst (Any (λ s. s.member ≡ j)) (sym put) (any-kept (λ s. s.member ≡ j) old st was);
  all = λ j n from to there is.
      let same : k ≡ j = omega (arith, from, to)
      in subst (Any (λ s. s.member ≡ j)) (sym put) (Any-push (λ s. s.member ≡ j) old st (number ∙ same));
  those = λ j s found. ⊎_elim inl (λ is. inr (subst (IsStepAmong other k (k + 1)) is.1 among)) (place j s found);
  apart = λ all was none. λ i j s t left' right same. pair all was none i j s t same (place i s left') (place j t right);
}
  where
    here : IsStepOf ms left last st
    here =
        let Of : Option MemberForm → Type 0 = λ o. IsSomeAnd o (IsSteppedBy left last st)
        in subst Of (sym (ap (slice_get ms) number ∙ at)) (tested.0, tested.1, read, literal)

    among : IsStepAmong other k (k + 1) st
    among = (omega (arith, number), omega (arith, number), ap is_other (sym read) ∙ tested.2)

    place : (j : ℕ) (s : Step) → slice_get new j ≡ Some s → (slice_get old j ≡ Some s) ⊎ ((j ≡ length old) × (st ≡ s))
    place j s found = pushed-at old st j s (ap (λ xs. slice_get xs j) (sym put) ∙ found)

    -- a step of the same member that stood there is one of those that don't
    clash : All (IsStepOf ms left last) old
        → ((j : ℕ) (s : Step) → slice_get old j ≡ Some s → ¬ IsStepAmong other k (k + 1) s)
        → (j : ℕ) (s : Step) → slice_get old j ≡ Some s → s.member ≡ st.member → ⊥
    clash all none j s found same =
        let is : IsStepOf ms left last s = subst (IsStepOf ms left last) (get_or-at old j s st found) (all j st (slice_get_within old j s found))
        in let by : IsSteppedBy left last s m
        = subst (λ o. IsSomeAnd o (IsSteppedBy left last s)) (ap (slice_get ms) (same ∙ number) ∙ at) is
        in none j s found (omega (arith, number, same), omega (arith, number, same), ap is_other (sym by.2) ∙ tested.2)

    pair : All (IsStepOf ms left last) old → AreApart old
        → ((j : ℕ) (s : Step) → slice_get old j ≡ Some s → ¬ IsStepAmong other k (k + 1) s)
        → (i j : ℕ) (s t : Step) → s.member ≡ t.member
        → (slice_get old i ≡ Some s) ⊎ ((i ≡ length old) × (st ≡ s)) → (slice_get old j ≡ Some t) ⊎ ((j ≡ length old) × (st ≡ t))
        → i ≡ j
    pair all was none i j s t same (inl a) (inl b) = was i j s t a b same
    pair all was none i j s t same (inl a) (inr b) = absurd (clash all none i s a (same ∙ ap (λ x. x.member) (sym b.1)))
    pair all was none i j s t same (inr a) (inl b) = absurd (clash all none j t b (sym same ∙ ap (λ x. x.member) (sym a.1)))
    pair all was none i j s t same (inr a) (inr b) = a.0 ∙ sym b.0

-- nothing is put there for one that isn't tested then
pub none-pushed : (ms : List MemberForm) (left : ℕ) (last other : Bool) (k : ℕ) (m : MemberForm) (old new : List Step)
    → slice_get ms k ≡ Some m → ¬ IsTestedAt left last other m → new ≡ old → ArePushed ms left last other k (k + 1) old new
none-pushed ms left last other k m old new at not-tested same = record {
  each = λ all. subst (All (IsStepOf ms left last)) (sym same) all;
  kept = λ j was. subst (Any (λ s. s.member ≡ j)) (sym same) was;
  all = λ j n from to there is.
      let number : j ≡ k = omega (arith, from, to)
      in let member : n ≡ m = cc (there, at, ap (slice_get ms) number)
      in absurd (not-tested (subst (IsTestedAt left last other) member is));
  those = λ j st found. inl (ap (λ xs. slice_get xs j) (sym same) ∙ found);
  apart = λ all was none. subst AreApart (sym same) was;
}

-- those of later members are put behind
pub more_pushed : (ms : List MemberForm) (left : ℕ) (last other : Bool) (from mid to : ℕ) (old now new : List Step)
    → from ≤ mid → mid ≤ to → ArePushed ms left last other from mid old now → ArePushed ms left last other mid to now new
    → ArePushed ms left last other from to old new
more_pushed ms left last other from mid to old now new low' up first next = record {
  each = λ all. next.each (first.each all);
  kept = λ k was. next.kept k (first.kept k was);
  all = λ k m low high at is. cases k m low high at is (below k);
  those = λ j st found. ⊎_elim (λ now-there. ⊎_elim inl (λ is. inr (is.0, omega (arith, is.1, up), is.2)) (first.those j st now-there))
      (λ is. inr (omega (arith, is.0, low'), is.1, is.2)) (next.those j st found);
  apart = λ every was none. next.apart (first.each every)
      (first.apart every was (λ j st found is. none j st found (is.0, omega (arith, is.1, up), is.2)))
      (λ j st found is. ⊎_elim (λ there. none j st there (omega (arith, is.0, low'), is.1, is.2))
      (λ before. absurd (omega (arith, before.1, is.0))) (first.those j st found));
}
  where
    below : (k : ℕ) → (k < mid) ⊎ (mid ≤ k)
    below k = cases_lt k mid

    cases : (k : ℕ) (m : MemberForm) → from ≤ k → k < to → slice_get ms k ≡ Some m → IsTestedAt left last other m
        → (k < mid) ⊎ (mid ≤ k) → Any (λ st. st.member ≡ k) new
    cases k m low high at is (inl before) = next.kept k (first.all k m low before at is)
    cases k m low high at is (inr behind) = next.all k m behind high at is

pub nothing_pushed : (ms : List MemberForm) (left : ℕ) (last other : Bool) (from : ℕ) (steps : List Step)
    → ArePushed ms left last other from from steps steps
nothing_pushed ms left last other from steps = record {
  each = λ all. all;
  kept = λ k was. was;
  all = λ k m low high at is. absurd (omega (arith, low, high));
  those = λ j st found. inl found;
  apart = λ all was none. was;
}

-- those of literals and the others are all
pub all-steps : (ms : List MemberForm) (left : ℕ) (last : Bool) (count : ℕ) (none now new : List Step) → none ≡ [] → count ≡ length ms
    → ArePushed ms left last false 0 count none now → ArePushed ms left last true 0 count now new → AreSteps ms left last new
all-steps ms left last count none now new empty whole literals others = record {
  each = others.each each-now;
  all = λ k m at l w. cases k m at l w (is_other m.reading) refl;
  apart = others.apart each-now
      (literals.apart each-none (subst AreApart (sym empty) (λ i j st other at. absurd (cc at)))
      (λ j st found is. absurd (no-step j st found)))
      (λ j st found is. ⊎_elim (λ there. absurd (no-step j st there)) (λ was. absurd (cc (was.2, is.2))) (literals.those j st found));
}
  where
    each-none : All (IsStepOf ms left last) none
    each-none = subst (All (IsStepOf ms left last)) (sym empty) (All-nil (IsStepOf ms left last))

    each-now : All (IsStepOf ms left last) now
    each-now = literals.each each-none

    no-step : (j : ℕ) (st : Step) → slice_get none j ≡ Some st → ⊥
    no-step j st found = let at : slice_get [] j ≡ Some st = ap (λ xs. slice_get xs j) (sym empty) ∙ found in absurd (cc at)

    cases : (k : ℕ) (m : MemberForm) → slice_get ms k ≡ Some m → m.left ≡ left → m.last ≡ last
        → (b : Bool) → is_other m.reading ≡ b → Any (λ st. st.member ≡ k) new
    cases k m at l w false is =
        others.kept k (literals.all k m (omega arith) (omega (arith, slice_get_within ms k m at, whole)) at (l, w, is))
    cases k m at l w true is = others.all k m (omega arith) (omega (arith, slice_get_within ms k m at, whole)) at (l, w, is)

-- one level more
pub levels-more : (ms : List MemberForm) (n : ℕ) (old new : List Level) (l : Level) → AreLevels ms n old → AreSteps ms n false l.own
    → AreSteps ms n true l.last → new ≡ old ++ l ∷ [] → AreLevels ms (n + 1) new
levels-more ms n old new l before own last put = record {
  long = ap length put ∙ length-append old (l ∷ []) ∙ ap (λ k. k + 1) before.long;
  each = λ left x at. here left x (pushed-at old l left x (ap (λ ls. slice_get ls left) (sym put) ∙ at));
}
  where
    here : (left : ℕ) (x : Level) → (slice_get old left ≡ Some x) ⊎ ((left ≡ length old) × (l ≡ x))
        → AreSteps ms left false x.own × AreSteps ms left true x.last
    here left x (inl was) = before.each left x was
    here left x (inr is) =
        let same : n ≡ left = sym (is.0 ∙ before.long)
        in let At : ℕ → Type 0 = λ k. AreSteps ms k false l.own × AreSteps ms k true l.last
        in let Of : Level → Type 0 = λ y. AreSteps ms left false y.own × AreSteps ms left true y.last
        in subst Of is.1 (subst At same (own, last))
