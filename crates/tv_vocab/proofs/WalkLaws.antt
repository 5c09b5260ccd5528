-- The steps of a depth-first walk of definitions.
use Rattle.std.proofs.Common.{◌≡◌, ◌≢◌, ℕ, zero, suc, ◌+◌, ◌<◌, ◌≤◌, ◌⊎◌, inl, inr, List, [], ◌∷◌, ◌++◌}
use Rattle.std.proofs.Common.{length, Option, Some, None, refl, ap, sym, subst, ◌∙◌, arith, add-one}
use Rattle.std.specs.Prelude.{Contains, slice_get, reverse, Result, Ok, Err, Bool, IfOk}
use Rattle.std.specs.Option.{option_map}
use Rattle.std.specs.declared.alloc.AllocError.{AllocError}
use Rattle.std.proofs.Math.ListN.{set}
use Rattle.std.proofs.lemmas.List.{length-set, reverse-append}
use Rattle.std.proofs.lemmas.List.Sums.{sum_by_push}
use Rattle.std.proofs.lemmas.Option.{slice_get-get_or}
use Rattle.std.proofs.lemmas.Bool.{cases_eq}
use Rattle.tv_model.specs.Truth.{IsWalk}
use Rattle.tv_vocab.specs.Cycles.{mentioned_at, MentionsPred, RestsOn, HasCycle}
use Rattle.tv_vocab.specs.Walk.{mark_at, IsMarkedDone, mention_at, seen_next, next_mention, AreDone, ComesTo}
use Rattle.tv_vocab.specs.Walk.{LeadsTo, IsPath, StandsOn, IsSettled, AreMarks, KeepsSeen, AllUnseen}
use Rattle.tv_vocab.specs.Walk.{step_work, mark_work, marks_work, work}
use Rattle.tv_vocab.specs.declared.walk.Mark.{Mark}
use Rattle.tv_vocab.specs.declared.walk.Mark.TheVariants.{Unseen, Open, Done}
use Rattle.tv_vocab.specs.declared.walk.Step.{Step}
use Rattle.tv_vocab.proofs.CycleLaws.{later_in, inside, rests_then, rests_once, less_or_last}

-- ---- marks

some_is : (x y : ℕ) → ◌≡◌ {A = Option ℕ} (Some x) (Some y) → x ≡ y
some_is x y e = cc

not_open : (m : Mark) → m ≡ Done → m ≡ Open → ⊥
not_open m d o = cc

not_unseen : (m : Mark) → m ≡ Done → m ≡ Unseen → ⊥
not_unseen m d u = cc

open_not_done : (m : Mark) → m ≡ Open → m ≡ Done → ⊥
open_not_done m o d = cc

set_same : (marks : List Mark) (p : ℕ) (m : Mark) → p < length marks → mark_at (set marks p m) p ≡ m
set_same [] p m lt = absurd (omega arith)
set_same (x ∷ marks) zero m lt = refl
set_same (x ∷ marks) (suc p) m lt = set_same marks p m (omega arith)

set_done : (marks : List Mark) (p : ℕ) → mark_at (set marks p Done) p ≡ Done
set_done [] p = refl
set_done (x ∷ marks) zero = refl
set_done (x ∷ marks) (suc p) = set_done marks p

set_other : (marks : List Mark) (p q : ℕ) (m : Mark) → q ≢ p → mark_at (set marks p m) q ≡ mark_at marks q
set_other [] p q m ne = refl
set_other (x ∷ marks) zero zero m ne = absurd (ne refl)
set_other (x ∷ marks) zero (suc q) m ne = refl
set_other (x ∷ marks) (suc p) zero m ne = refl
set_other (x ∷ marks) (suc p) (suc q) m ne = set_other marks p q m (λ e. ne (ap suc e))

unseen_inside : (marks : List Mark) (p : ℕ) → mark_at marks p ≡ Unseen → p < length marks
unseen_inside [] p h = absurd (not_unseen Done refl h)
unseen_inside (x ∷ marks) zero h = omega arith
unseen_inside (x ∷ marks) (suc p) h = let lt = unseen_inside marks p h in omega (arith, lt)

pub outside_done : (marks : List Mark) (p : ℕ) → length marks ≤ p → IsMarkedDone marks p
outside_done [] p le = refl
outside_done (x ∷ marks) zero le = absurd (omega arith)
outside_done (x ∷ marks) (suc p) le = outside_done marks p (omega arith)

done_or_inside : (marks : List Mark) (p : ℕ) → AllUnseen marks → IsMarkedDone marks p → length marks ≤ p
done_or_inside [] p all d = omega arith
done_or_inside (x ∷ marks) zero all d = absurd (not_unseen x d all.0)
done_or_inside (x ∷ marks) (suc p) all d = let le = done_or_inside marks p all.1 d in omega (arith, le)

none_open : (marks : List Mark) (p : ℕ) → AllUnseen marks → mark_at marks p ≡ Open → ⊥
none_open [] p all o = not_open Done refl o
none_open (x ∷ marks) zero all o = unseen_open x all.0 o
  where
    unseen_open : (m : Mark) → m ≡ Unseen → m ≡ Open → ⊥
    unseen_open m u k = cc
none_open (x ∷ marks) (suc p) all o = none_open marks p all.1 o

pub unseen_push : (marks : List Mark) → AllUnseen marks → AllUnseen (marks ++ Unseen ∷ [])
unseen_push [] all = (refl, tt)
unseen_push (x ∷ marks) all = (all.0, unseen_push marks all.1)

mark_cases : (m : Mark) → m ≢ Unseen → m ≢ Open → m ≡ Done
mark_cases Unseen u o = absurd (u refl)
mark_cases Open u o = absurd (o refl)
mark_cases Done u o = refl

-- ---- what is done stays done

abbrev Kept : List Mark → List Mark → Type 0
Kept old new = (q : ℕ) → IsMarkedDone old q → IsMarkedDone new q

module _ (uses : List (List ℕ)) where
  comes_kept : (old new : List Mark) → Kept old new → (step : Step) (q : ℕ) → ComesTo uses old step q → ComesTo uses new step q
  comes_kept old new kept step q c = record { last = c.last; is = c.is; mentions = c.mentions; before = λ k r lt is. kept r (c.before k r lt is) }

  leads_kept : (old new : List Mark) → Kept old new → (steps : List Step) (q : ℕ) → LeadsTo uses old steps q → LeadsTo uses new steps q
  leads_kept old new kept [] q h = tt
  leads_kept old new kept (step ∷ steps) q h = (comes_kept old new kept step q h.0, leads_kept old new kept steps step.pred h.1)

  settled_kept : (old new : List Mark) → Kept old new → (p : ℕ) → IsSettled uses old p → IsSettled uses new p
  settled_kept old new kept p s = record { mentions = λ q m. kept q (s.mentions q m); acyclic = s.acyclic }

  -- ---- mentions

  contains_at : (xs : List ℕ) (k q : ℕ) → slice_get xs k ≡ Some q → Contains xs q
  contains_at [] k q h = absurd (none_some q h)
    where
      none_some : (x : ℕ) → ◌≡◌ {A = Option ℕ} None (Some x) → ⊥
      none_some x e = cc
  contains_at (x ∷ xs) zero q h = (0, omega arith, some_is x q h)
  contains_at (x ∷ xs) (suc k) q h = later_in q x xs (contains_at xs k q h)

  past_none : (xs : List ℕ) (n : ℕ) → slice_get xs n ≡ None → length xs ≤ n
  past_none [] n h = omega arith
  past_none (x ∷ xs) zero h = absurd (some_none x h)
    where
      some_none : (y : ℕ) → ◌≡◌ {A = Option ℕ} (Some y) None → ⊥
      some_none y e = cc
  past_none (x ∷ xs) (suc n) h = let le = past_none xs n h in omega (arith, le)

  within_some : (xs : List ℕ) (n q : ℕ) → slice_get xs n ≡ Some q → n < length xs
  within_some [] n q h = absurd (none_some q h)
    where
      none_some : (x : ℕ) → ◌≡◌ {A = Option ℕ} None (Some x) → ⊥
      none_some x e = cc
  within_some (x ∷ xs) zero q h = omega arith
  within_some (x ∷ xs) (suc n) q h = let lt = within_some xs n q h in omega (arith, lt)

  mentions_at : (p k q : ℕ) → mention_at uses p k ≡ Some q → MentionsPred uses p q
  mentions_at p k q h = contains_at (mentioned_at uses p) k q h

  -- all mentions are done where all were seen
  all_done : (marks : List Mark) (p n : ℕ) → AreDone uses marks p n → mention_at uses p n ≡ None → (q : ℕ) → MentionsPred uses p q → IsMarkedDone marks q
  all_done marks p n h none q m =
      let le = past_none (mentioned_at uses p) n none in
      let lt = m.1 in
      h m.0 q (omega (arith, le, lt)) (slice_get-get_or (mentioned_at uses p) m.0 q m.1 ∙ ap Some m.2)

  -- ---- the path

  one_more : (marks : List Mark) (step : Step) (q : ℕ) (c : ComesTo uses marks step q) → IsMarkedDone marks q → (k r : ℕ) → mention_at uses step.pred k ≡ Some r → (k < c.last) ⊎ (k ≡ c.last) → IsMarkedDone marks r
  one_more marks step q c d k r is (inl lt) = c.before k r lt is
  one_more marks step q c d k r is (inr same) =
      subst (IsMarkedDone marks) (some_is q r (sym c.mentions ∙ ap (mention_at uses step.pred) (sym same) ∙ is)) d

  -- where what the path has come to is done, its last step may go on
  arrived : (marks : List Mark) (steps : List Step) (q : ℕ) → LeadsTo uses marks steps q → IsMarkedDone marks q → IsPath uses marks steps
  arrived marks [] q h d = tt
  arrived marks (step ∷ steps) q h d =
      (λ k r lt is. one_more marks step q h.0 d k r is (less_or_last k h.0.last (subst (λ (n : ℕ). k < n) h.0.is lt)), h.1)

  -- what stands on the path rests on itself where the path has come to it
  closes : (marks : List Mark) (steps : List Step) (q r : ℕ) → LeadsTo uses marks steps q → StandsOn steps r → RestsOn uses r q
  closes marks [] q r h s = absurd s
  closes marks (step ∷ steps) q r h (inl e) = subst (λ (x : ℕ). RestsOn uses x q) (sym e) (rests_once uses step.pred q (mentions_at step.pred h.0.last q h.0.mentions))
  closes marks (step ∷ steps) q r h (inr s) = rests_then uses r step.pred q (closes marks steps step.pred r h.1 s) (rests_once uses step.pred q (mentions_at step.pred h.0.last q h.0.mentions))

  pub found : (marks : List Mark) (steps : List Step) (p : ℕ) → AreMarks uses marks steps → LeadsTo uses marks steps p → mark_at marks p ≡ Open → HasCycle uses
  found marks steps p are leads open' = (p, closes marks steps p p leads (are.open_ones p open'))

  -- ---- a predicate is done

  module _ (marks : List Mark) (done : (p : ℕ) → IsMarkedDone marks p → IsSettled uses marks p) where
    walk_done : (p q : ℕ) (stops : List ℕ) → IsWalk (MentionsPred uses) p stops q → IsMarkedDone marks p → IsMarkedDone marks q
    walk_done p q [] h d = (done p d).mentions q h
    walk_done p q (x ∷ stops) h d = walk_done x q stops h.1 ((done p d).mentions x h.0)

    back : (p : ℕ) (stops : List ℕ) → ((q : ℕ) → MentionsPred uses p q → IsMarkedDone marks q) → IsWalk (MentionsPred uses) p stops p → IsMarkedDone marks p
    back p [] all h = all p h
    back p (x ∷ stops) all h = walk_done x p stops h.1 (all x h.0)

    not_itself : (p : ℕ) → ((q : ℕ) → MentionsPred uses p q → IsMarkedDone marks q) → ¬ RestsOn uses p p
    not_itself p all r = (done p (back p r.0 all r.1)).acyclic r

  done_keeps : (marks : List Mark) (p : ℕ) → Kept marks (set marks p Done)
  done_keeps marks p q d = elim (cases_eq q p) [
    | inl e ↦ subst (IsMarkedDone (set marks p Done)) (sym e) (set_done marks p)
    | inr ne ↦ set_other marks p q Done ne ∙ d
  ]

  settles : (marks : List Mark) (p : ℕ) → ((q : ℕ) → IsMarkedDone marks q → IsSettled uses marks q) → ((q : ℕ) → MentionsPred uses p q → IsMarkedDone marks q) → (q : ℕ) → IsMarkedDone (set marks p Done) q → (q ≡ p) ⊎ (q ≢ p) → IsSettled uses (set marks p Done) q
  settles marks p done all q d (inl e) =
      subst (IsSettled uses (set marks p Done)) (sym e)
      (record { mentions = λ r m. done_keeps marks p r (all r m); acyclic = not_itself marks done p all })
  settles marks p done all q d (inr ne) = settled_kept marks (set marks p Done) (done_keeps marks p) q (done q (sym (set_other marks p q Done ne) ∙ d))

  still_on : (step : Step) (steps : List Step) (q : ℕ) → q ≢ step.pred → StandsOn (step ∷ steps) q → StandsOn steps q
  still_on step steps q ne (inl e) = absurd (ne e)
  still_on step steps q ne (inr s) = s

  open_left : (marks : List Mark) (step : Step) (steps : List Step) → AreMarks uses marks (step ∷ steps) → (q : ℕ) → mark_at (set marks step.pred Done) q ≡ Open → (q ≡ step.pred) ⊎ (q ≢ step.pred) → StandsOn steps q
  open_left marks step steps are q o (inl e) = absurd (not_open (mark_at (set marks step.pred Done) q) (subst (IsMarkedDone (set marks step.pred Done)) (sym e) (set_done marks step.pred)) o)
  open_left marks step steps are q o (inr ne) = still_on step steps q ne (are.open_ones q (sym (set_other marks step.pred q Done ne) ∙ o))

  pub closed_marks : (marks : List Mark) (step : Step) (steps : List Step) → AreMarks uses marks (step ∷ steps) → AreDone uses marks step.pred step.seen → mention_at uses step.pred step.seen ≡ None → AreMarks uses (set marks step.pred Done) steps
  closed_marks marks step steps are h none = record {
    count = length-set marks step.pred Done ∙ are.count;
    done = λ q d. settles marks step.pred are.done (all_done marks step.pred step.seen h none) q d (cases_eq q step.pred);
    open_ones = λ q o. open_left marks step steps are q o (cases_eq q step.pred);
  }

  pub closed_path : (marks : List Mark) (step : Step) (steps : List Step) → IsPath uses marks (step ∷ steps) → IsPath uses (set marks step.pred Done) steps
  closed_path marks step steps h =
      arrived (set marks step.pred Done) steps step.pred (leads_kept marks (set marks step.pred Done) (done_keeps marks step.pred) steps step.pred h.1) (set_done marks step.pred)

  -- ---- a predicate is opened

  open_keeps : (marks : List Mark) (p : ℕ) → mark_at marks p ≡ Unseen → Kept marks (set marks p Open)
  open_keeps marks p u q d = elim (cases_eq q p) [
    | inl e ↦ absurd (not_unseen (mark_at marks p) (subst (IsMarkedDone marks) e d) u)
    | inr ne ↦ set_other marks p q Open ne ∙ d
  ]

  settled_still : (marks : List Mark) (p : ℕ) → mark_at marks p ≡ Unseen → ((q : ℕ) → IsMarkedDone marks q → IsSettled uses marks q) → (q : ℕ) → IsMarkedDone (set marks p Open) q → (q ≡ p) ⊎ (q ≢ p) → IsSettled uses (set marks p Open) q
  settled_still marks p u done q d (inl e) =
      absurd (open_not_done (mark_at (set marks p Open) p) (set_same marks p Open (unseen_inside marks p u)) (subst (IsMarkedDone (set marks p Open)) e d))
  settled_still marks p u done q d (inr ne) = settled_kept marks (set marks p Open) (open_keeps marks p u) q (done q (sym (set_other marks p q Open ne) ∙ d))

  open_more : (marks : List Mark) (step : Step) (steps : List Step) → AreMarks uses marks steps → (q : ℕ) → mark_at (set marks step.pred Open) q ≡ Open → (q ≡ step.pred) ⊎ (q ≢ step.pred) → StandsOn (step ∷ steps) q
  open_more marks step steps are q o (inl e) = inl e
  open_more marks step steps are q o (inr ne) = inr (are.open_ones q (sym (set_other marks step.pred q Open ne) ∙ o))

  pub opened_marks : (marks : List Mark) (step : Step) (steps : List Step) → AreMarks uses marks steps → mark_at marks step.pred ≡ Unseen → AreMarks uses (set marks step.pred Open) (step ∷ steps)
  opened_marks marks step steps are u = record {
    count = length-set marks step.pred Open ∙ are.count;
    done = λ q d. settled_still marks step.pred u are.done q d (cases_eq q step.pred);
    open_ones = λ q o. open_more marks step steps are q o (cases_eq q step.pred);
  }

  pub opened_path : (marks : List Mark) (p : ℕ) (steps : List Step) → mark_at marks p ≡ Unseen → LeadsTo uses marks steps p → IsPath uses (set marks p Open) (record { pred = p; seen = 0 } ∷ steps)
  opened_path marks p steps u h = (λ k q lt is. absurd (omega (arith, lt)), leads_kept marks (set marks p Open) (open_keeps marks p u) steps p h)

  -- ---- a mention is seen

  pub seen_marks : (marks : List Mark) (step : Step) (steps : List Step) → AreMarks uses marks (step ∷ steps) → AreMarks uses marks (seen_next step ∷ steps)
  seen_marks marks step steps are = record { count = are.count; done = are.done; open_ones = λ q o. are.open_ones q o }

  pub seen_leads : (marks : List Mark) (step : Step) (steps : List Step) (q : ℕ) → IsPath uses marks (step ∷ steps) → mention_at uses step.pred step.seen ≡ Some q → LeadsTo uses marks (seen_next step ∷ steps) q
  seen_leads marks step steps q h is = (record { last = step.seen; is = add-one step.seen; mentions = is; before = h.0 }, h.1)

  -- ---- nothing is done yet

  pub first_marks : (marks : List Mark) → length marks ≡ length uses → AllUnseen marks → AreMarks uses marks []
  first_marks marks count all = record {
    count = count;
    done = λ p d. record {
      mentions = λ q m. absurd (outside p q d m);
      acyclic = λ r. absurd (outside_walk p r.0 d r.1);
    };
    open_ones = λ p o. absurd (none_open marks p all o);
  }
    where
      outside : (p q : ℕ) → IsMarkedDone marks p → MentionsPred uses p q → ⊥
      outside p q d m = let le = done_or_inside marks p all d in let lt = inside uses p q m in absurd (omega (arith, le, lt, count))

      outside_walk : (p : ℕ) (stops : List ℕ) → IsMarkedDone marks p → IsWalk (MentionsPred uses) p stops p → ⊥
      outside_walk p [] d h = outside p p d h
      outside_walk p (x ∷ stops) d h = outside p x d h.0

  -- ---- all are done

  pub none_found : (marks : List Mark) → AreMarks uses marks [] → ((p : ℕ) → p < length uses → mark_at marks p ≢ Unseen) → ¬ HasCycle uses
  none_found marks are seen c = (are.done c.0 (is_done c.0 (less_or_past c.0 (length uses)))).acyclic c.1
    where
      less_or_past : (p n : ℕ) → (p < n) ⊎ (n ≤ p)
      less_or_past p zero = inr (omega arith)
      less_or_past zero (suc n) = inl (omega arith)
      less_or_past (suc p) (suc n) = elim (less_or_past p n) [ inl e ↦ inl (omega (arith, e)) | inr e ↦ inr (omega (arith, e)) ]

      is_done : (p : ℕ) → (p < length uses) ⊎ (length uses ≤ p) → IsMarkedDone marks p
      is_done p (inl lt) = mark_cases (mark_at marks p) (seen p lt) (λ o. are.open_ones p o)
      is_done p (inr le) = outside_done marks p (let same = are.count in omega (arith, le, same))

  -- ---- the mentions that are left

  closed_work : (uses' : List (List ℕ)) (marks : List Mark) (p : ℕ) → marks_work uses' (set marks p Done) ≤ marks_work uses' marks
  closed_work [] marks p = omega arith
  closed_work (u ∷ uses') [] p = omega arith
  closed_work (u ∷ uses') (m ∷ marks) zero = omega arith
  closed_work (u ∷ uses') (m ∷ marks) (suc p) = let le = closed_work uses' marks p in omega (arith, le)

  opened_work : (uses' : List (List ℕ)) (marks : List Mark) (p : ℕ) → length marks ≡ length uses' → mark_at marks p ≡ Unseen → marks_work uses' (set marks p Open) + (1 + length (mentioned_at uses' p)) ≡ marks_work uses' marks
  opened_work uses' [] p same u = absurd (not_unseen Done refl u)
  opened_work [] (m ∷ marks) p same u = absurd (omega (arith, same))
  opened_work (x ∷ uses') (m ∷ marks) zero same u = let here = ap (mark_work x) u in omega (arith, here)
  opened_work (x ∷ uses') (m ∷ marks) (suc p) same u = let rest = opened_work uses' marks p (omega (arith, same)) u in omega (arith, rest)

  pub closes_less : (marks : List Mark) (path : List Step) (step : Step) → work uses (set marks step.pred Done) path < work uses marks (path ++ step ∷ [])
  closes_less marks path step = let le = closed_work uses marks step.pred in omega (arith, le, sum_by_push (step_work uses) path step)

  pub opens_even : (marks : List Mark) (path : List Step) (p : ℕ) → length marks ≡ length uses → mark_at marks p ≡ Unseen → work uses (set marks p Open) (path ++ record { pred = p; seen = 0 } ∷ []) ≡ work uses marks path
  opens_even marks path p same u = let e = opened_work uses marks p same u in omega (arith, e, sum_by_push (step_work uses) path (record { pred = p; seen = 0 }))

  pub sees_less : (marks : List Mark) (path : List Step) (step : Step) (q : ℕ) → mention_at uses step.pred step.seen ≡ Some q → work uses marks (path ++ seen_next step ∷ []) < work uses marks (path ++ step ∷ [])
  sees_less marks path step q is = let lt = within_some (mentioned_at uses step.pred) step.seen q is in omega (arith, lt, sum_by_push (step_work uses) path step, sum_by_push (step_work uses) path (seen_next step))

-- ---- paths from their ends

pub reverse_push : (path : List Step) (step : Step) → reverse (path ++ step ∷ []) ≡ step ∷ reverse path
reverse_push path step = reverse-append path (step ∷ [])

-- ---- what was seen

pub keeps_then : (a b c : List Mark) → KeepsSeen a b → KeepsSeen b c → KeepsSeen a c
keeps_then a b c h k p s = k p (h p s)

pub keeps_set : (marks : List Mark) (p : ℕ) (m : Mark) → m ≢ Unseen → KeepsSeen marks (set marks p m)
keeps_set marks p m seen q h = elim (cases_eq q p) [
  | inl e ↦ subst (λ (x : ℕ). mark_at (set marks p m) x ≢ Unseen) (sym e) (set_seen marks p (subst (λ (x : ℕ). mark_at marks x ≢ Unseen) e h))
  | inr ne ↦ λ u. h (sym (set_other marks p q m ne) ∙ u)
]
  where
    set_seen : (ms : List Mark) (r : ℕ) → mark_at ms r ≢ Unseen → mark_at (set ms r m) r ≢ Unseen
    set_seen [] r k = k
    set_seen (x ∷ ms) zero k = seen
    set_seen (x ∷ ms) (suc r) k = set_seen ms r k

pub open_is_seen : Open ≢ Unseen
open_is_seen e = cc

pub done_is_seen : Done ≢ Unseen
done_is_seen e = cc

pub opened_seen : (marks : List Mark) (p : ℕ) → mark_at marks p ≡ Unseen → mark_at (set marks p Open) p ≢ Unseen
opened_seen marks p u e = open_is_seen (sym (set_same marks p Open (unseen_inside marks p u)) ∙ e)

-- ---- the calls

some_pair : (x y : ℕ × Step) → ◌≡◌ {A = Option (ℕ × Step)} (Some x) (Some y) → x ≡ y
some_pair x y e = cc

pair_none : (x : ℕ × Step) → ◌≡◌ {A = Option (ℕ × Step)} (Some x) None → ⊥
pair_none x e = cc

none_pair : (x : ℕ × Step) → ◌≡◌ {A = Option (ℕ × Step)} None (Some x) → ⊥
none_pair x e = cc

none_by : (step : Step) (o : Option ℕ) → ◌≡◌ {A = Option (ℕ × Step)} (option_map (λ q. (q, seen_next step)) o) None → o ≡ None
none_by step None h = refl
none_by step (Some q) h = absurd (pair_none (q, seen_next step) h)

record IsNext (uses : List (List ℕ)) (step : Step) (q : ℕ) (seen : Step) : Type 0 where
  mention : mention_at uses step.pred step.seen ≡ Some q
  is : seen ≡ seen_next step

next_by : (step : Step) (o : Option ℕ) (q : ℕ) (seen : Step) → ◌≡◌ {A = Option (ℕ × Step)} (option_map (λ r. (r, seen_next step)) o) (Some (q, seen)) → (o ≡ Some q) × (seen ≡ seen_next step)
next_by step None q seen h = absurd (none_pair (q, seen) h)
next_by step (Some r) q seen h =
    let e = some_pair (r, seen_next step) (q, seen) h in
    (ap (λ (x : ℕ × Step). Some x.0) e, sym (ap (λ (x : ℕ × Step). x.1) e))

module _ (uses : List (List ℕ)) where
  next_is : (step : Step) (q : ℕ) (seen : Step) → next_mention uses step ≡ Some (q, seen) → IsNext uses step q seen
  next_is step q seen h = let e = next_by step (mention_at uses step.pred step.seen) q seen h in record { mention = e.0; is = e.1 }

  module _ (marks new : List Mark) (path longer : List Step) (p : ℕ) (put : new ≡ set marks p Open) (pushed : longer ≡ path ++ record { pred = p; seen = 0 } ∷ []) (unseen : mark_at marks p ≡ Unseen) where
    pub opened_marks_are : AreMarks uses marks (reverse path) → AreMarks uses new (reverse longer)
    opened_marks_are are = rw (put, pushed, reverse_push path (record { pred = p; seen = 0 })) (opened_marks uses marks (record { pred = p; seen = 0 }) (reverse path) are unseen)

    pub opened_path_is : LeadsTo uses marks (reverse path) p → IsPath uses new (reverse longer)
    opened_path_is leads = rw (put, pushed, reverse_push path (record { pred = p; seen = 0 })) (opened_path uses marks p (reverse path) unseen leads)

    pub opened_is_seen : mark_at new p ≢ Unseen
    opened_is_seen = rw put (opened_seen marks p unseen)

    pub opened_keeps : KeepsSeen marks new
    opened_keeps = rw put (keeps_set marks p Open open_is_seen)

    pub opened_even : length marks ≡ length uses → work uses new longer ≤ work uses marks path
    opened_even count = let e = opens_even uses marks path p count unseen in rw (put, pushed) (omega (arith, e))

  module _ (marks new : List Mark) (path after : List Step) (step : Step) (put : new ≡ set marks step.pred Done) (same : after ≡ path) where
    pub closed_marks_are : AreMarks uses marks (step ∷ reverse path) → IsPath uses marks (step ∷ reverse path) → next_mention uses step ≡ None → AreMarks uses new (reverse after)
    closed_marks_are are h none = rw (put, same) (closed_marks uses marks step (reverse path) are h.0 (none_by step (mention_at uses step.pred step.seen) none))

    pub closed_path_is : IsPath uses marks (step ∷ reverse path) → IsPath uses new (reverse after)
    closed_path_is h = rw (put, same) (closed_path uses marks step (reverse path) h)

    pub closed_keeps : KeepsSeen marks new
    closed_keeps = rw put (keeps_set marks step.pred Done done_is_seen)

    pub closed_less : work uses new after < work uses marks (path ++ step ∷ [])
    closed_less = rw (put, same) (closes_less uses marks path step)

  module _ (marks : List Mark) (path longer : List Step) (step : Step) (q : ℕ) (seen : Step) (next : next_mention uses step ≡ Some (q, seen)) (pushed : longer ≡ path ++ seen ∷ []) where
    pub seen_marks_are : AreMarks uses marks (step ∷ reverse path) → AreMarks uses marks (reverse longer)
    seen_marks_are are = rw (pushed, (next_is step q seen next).is, reverse_push path (seen_next step)) (seen_marks uses marks step (reverse path) are)

    pub seen_leads_to : IsPath uses marks (step ∷ reverse path) → LeadsTo uses marks (reverse longer) q
    seen_leads_to h = rw (pushed, (next_is step q seen next).is, reverse_push path (seen_next step)) (seen_leads uses marks step (reverse path) q h (next_is step q seen next).mention)

    pub seen_less : work uses marks longer < work uses marks (path ++ step ∷ [])
    seen_less = rw (pushed, (next_is step q seen next).is) (sees_less uses marks path step q (next_is step q seen next).mention)

  -- a step that was taken off the path
  pub taken_marks : (marks : List Mark) (path shorter : List Step) (step : Step) → path ≡ shorter ++ step ∷ [] → AreMarks uses marks (reverse path) → AreMarks uses marks (step ∷ reverse shorter)
  taken_marks marks path shorter step e are = subst (AreMarks uses marks) (ap reverse e ∙ reverse_push shorter step) are

  pub taken_path : (marks : List Mark) (path shorter : List Step) (step : Step) → path ≡ shorter ++ step ∷ [] → IsPath uses marks (reverse path) → IsPath uses marks (step ∷ reverse shorter)
  taken_path marks path shorter step e h = subst (IsPath uses marks) (ap reverse e ∙ reverse_push shorter step) h

  -- no path at all
  pub empty_marks : (marks : List Mark) (path : List Step) → path ≡ [] → AreMarks uses marks [] → AreMarks uses marks (reverse path)
  empty_marks marks path e are = subst (λ (steps : List Step). AreMarks uses marks (reverse steps)) (sym e) are

  pub empty_leads : (marks : List Mark) (path : List Step) (q : ℕ) → path ≡ [] → LeadsTo uses marks (reverse path) q
  empty_leads marks path q e = subst (λ (steps : List Step). LeadsTo uses marks (reverse steps) q) (sym e) tt

  pub no_marks : (marks : List Mark) (path : List Step) → path ≡ [] → AreMarks uses marks (reverse path) → AreMarks uses marks []
  no_marks marks path e are = subst (λ (steps : List Step). AreMarks uses marks (reverse steps)) e are

pub less_if : (r : Result Bool AllocError) (a b d : ℕ) → IfOk r (λ _. a ≤ b) → b < d → IfOk r (λ _. a < d)
less_if (Ok x) a b d le lt = omega (arith, le, lt)
less_if (Err e) a b d le lt = tt
