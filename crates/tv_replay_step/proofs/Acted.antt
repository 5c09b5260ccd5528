-- What the action makes of the heap is the step of the model, and where given updates aren't so at it.
use Rattle.std.proofs.Common.{ℕ, ◌≡◌, ◌≢◌, ◌<◌, ◌↔◌, Bool, true, false, List, length, get_or, map, Option}
use Rattle.std.proofs.Common.{Some, None, ⊎_elim, refl, sym, ap, subst, ◌∙◌, arith, Contains, All, AllPairs}
use Rattle.std.proofs.Common.{eqb, ne_eqb}
use Rattle.std.specs.Prelude.{IfSome, slice_get}
use Rattle.std.specs.List.{range_with_len}
use Rattle.std.proofs.lemmas.Bool.{cases_eq, false≢true}
use Rattle.std.proofs.lemmas.List.Elements.{All-contains, All-from_recursion, recursion_from_All}
use Rattle.tv_kleene.proofs.Lattice.{same-definite}
use Rattle.tv_update_laws.specs.Applied.{kind_at}
use Rattle.tv_update_laws.proofs.Facts.{find-found}
use Rattle.tv_update_laws.proofs.Predicates.{kind-found}
use Rattle.tv_update_laws.proofs.Updates.{UpdateOf, update-of}
use Rattle.tv_replay_judge.specs.Same.{IsSameAt}
use Rattle.tv_kleene.specs.declared.K3.TheVariants.{Yes}
use Rattle.tv_model.specs.Form.{Form}
use Rattle.tv_model.specs.Heap.{Heap, Holds, IsTuple}
use Rattle.tv_model.specs.Program.{ProgramForm, PredForm, KCore, ActionForm, UpdateForm, ChangeForm, CFree}
use Rattle.tv_model.specs.Program.{CTo}
use Rattle.tv_model.specs.Step.{AllowsChange, FollowsUpdate, IsMiddle, StepsThrough, update_for}
use Rattle.tv_model.specs.Truth.{Assignment, Truth, put_all}
use Rattle.tv_model.specs.Valid.{IsAction, IsChange, IsValid}
use Rattle.tv_model.proofs.Lists.{All-from_contains}
use Rattle.tv_renaming_laws.specs.Renamed.{IsRenaming, renamed}
use Rattle.tv_renaming_laws.proofs.Fronts.{fronts_are_renamings}
use Rattle.tv_renaming_laws.proofs.Heaps.{concrete-renamed, heap-renamed, tuple-of_old, tuple-renamed}
use Rattle.tv_renaming_laws.proofs.Names.{holds-renamed, tuple-there}
use Rattle.tv_replay_laws.specs.Judged.{AgreesAt, IsFirst}
use Rattle.tv_replay_laws.specs.Next.{AreRetained, HasGiven, IsFreelyUpdated, middle_of, kept_individual}
use Rattle.tv_replay_laws.specs.Stuck.{AreValuesFor}
use Rattle.tv_replay_laws.proofs.Named.{same-names}
use Rattle.tv_structure_form.specs.StructureForm.{StructureForm, IsStructure, arities_of, value_at}
use Rattle.tv_structure_form.proofs.Library.{All-individuals, AreIndividuals-range, below-range}
use Rattle.tv_two_valued.specs.Laws.{IsOfProgram}
use Rattle.tv_two_valued.specs.TwoValued.{IsTwoValued, heap_of}
use Rattle.tv_two_valued.proofs.Heaps.{heap-of_program, heap-told}
use Rattle.tv_replay_step.specs.Free.{GivesAll, GivesValues, IsDefinite, IsFinished}
use Rattle.tv_replay_step.specs.Free as free
use Rattle.tv_replay_step.specs.Stepped.{broken_by}
use Rattle.tv_replay_step.specs.Turns.{HasValues, IsActed}
use Rattle.tv_replay_step.specs.Updated.{IsUpdatedTo, kept_of}
use Rattle.tv_replay_step.specs.declared.moved.Moved.{Moved}
use Rattle.tv_replay_step.proofs.Kept.{kept, kept-once}
use Rattle.tv_replay_step.proofs.Made.{origins-named, size-kept, value-kept, value-updated}
use Rattle.tv_replay_step.proofs.Middle.{Tells}
use Rattle.tv_replay_step.proofs.NewHeap.{core-free, core-same, new-concrete, new-heap, new-two_valued, over}
use Rattle.tv_replay_step.proofs.NewHeap.{size, unmarked}
use Rattle.tv_replay_step.proofs.Updates.{update-found}

-- ---- values for what is left free

pub values-for : (action : ActionForm) → AllPairs ◌≢◌ (map (λ (w : UpdateForm). w.pred) action.updates) → (n : ℕ) (values : Option StructureForm)
    → GivesAll n values action.updates ↔ AreValuesFor action n values
values-for action once n values = (forth values, back values)
  where
    at : (o : Option StructureForm) → GivesAll n o action.updates → (q : ℕ) (w : UpdateForm) → update_for q action.updates ≡ Some w
        → w.change ≡ CFree → GivesValues n o q
    at o all q w found is_free =
        let first = find-found (λ (x : UpdateForm). eqb x.pred q) action.updates w found
        in let same : w.pred ≡ q
        = ⊎_elim (λ e. e) (λ ne. absurd (false≢true (sym (ne_eqb w.pred q ne) ∙ first.1))) (cases_eq w.pred q)
        in subst (GivesValues n o) same
        (All-contains (λ (y : UpdateForm). free.IsFree y → GivesValues n o y.pred) action.updates w
        (All-from_recursion (λ (y : UpdateForm). free.IsFree y → GivesValues n o y.pred) action.updates all) first.0 is_free)

    forth : (o : Option StructureForm) → GivesAll n o action.updates → AreValuesFor action n o
    forth None all = λ q (w, found, is_free). at None all q w found is_free
    forth (Some vs) all = λ q (w, found, is_free). at (Some vs) all q w found is_free

    here : (w : UpdateForm) → Contains action.updates w → free.IsFree w → IsFreelyUpdated action w.pred
    here w listed is_free = (w, update-found action.updates once w listed, is_free)

    back : (o : Option StructureForm) → AreValuesFor action n o → GivesAll n o action.updates
    back None are =
        recursion_from_All (λ (y : UpdateForm). free.IsFree y → GivesValues n None y.pred) action.updates
        (All-from_contains (λ (y : UpdateForm). free.IsFree y → GivesValues n None y.pred) action.updates
        (λ w listed is_free. absurd (are w.pred (here w listed is_free))))
    back (Some vs) are =
        recursion_from_All (λ (y : UpdateForm). free.IsFree y → GivesValues n (Some vs) y.pred) action.updates
        (All-from_contains (λ (y : UpdateForm). free.IsFree y → GivesValues n (Some vs) y.pred) action.updates
        (λ w listed is_free. are w.pred (here w listed is_free)))

-- what fails first of one fails first of the other, where both are so of the same predicates
pub first-same : (preds : List PredForm) (P Q : ℕ → PredForm → Type 0)
    → ((q : ℕ) (d : PredForm) → slice_get preds q ≡ Some d → P q d ↔ Q q d) → (o : Option ℕ) → IsFirst preds P o → IsFirst preds Q o
first-same preds P Q same None first = λ q d found. (same q d found).0 (first q d found)
first-same preds P Q same (Some q) first = (
  (first.0.0, first.0.1, λ holds. first.0.2 ((same q first.0.0 first.0.1).1 holds)),
  λ k e lt found. (same k e found).0 (first.1 k e lt found),
)

module _ (p : ProgramForm) (valid : IsValid p) (action : ActionForm) (is_action : IsAction p action) (s : StructureForm)
    (is : IsStructure s) (two : IsTwoValued s) (of : IsOfProgram p s) (picked : Assignment)
    (inside : (v : ℕ) → Contains action.picks v → Contains (heap_of s).individuals (picked v))
    (t : StructureForm) (to : IsUpdatedTo p action picked s t) (values : Option StructureForm) (all_given : GivesAll t.size values action.updates)
    (x : StructureForm) (done : IsFinished p action.updates values t x) where
  abbrev us : List ℕ
  us = kept_of action picked s

  abbrev middle : Heap
  middle = middle_of action.fresh s

  pub new-size : x.size ≡ length us
  new-size =
      size p valid action is_action s is two of picked inside t to values all_given x done
      ∙ size-kept p action is_action s is two picked inside t to

  is-middle : (fresh : Bool) → IsMiddle fresh (heap_of s) (middle_of fresh s)
  is-middle false = refl
  is-middle true = (s.size, λ at. let lt : s.size < s.size = below-range s.size s.size at in absurd (omega (arith, lt)), refl)

  module _ (r back : ℕ → ℕ) (ren : IsRenaming r back) (names : (k : ℕ) → k < length us → r k ≡ get_or us k 0) where
    abbrev new : Heap
    new = renamed r (heap_of x)

    told : (q : ℕ) (tup : List ℕ) → Holds new q (map r tup) ↔ (value_at x q tup ≡ Yes)
    told q tup =
        let moved = holds-renamed r back ren (heap_of x) q tup
        in let holds = (heap-told x done.is).holds q tup
        in (λ h. holds.0 (moved.1 h), λ y. moved.0 (holds.1 y))

    old-tuple : (tup : List ℕ) → All (Contains (range_with_len 0 x.size)) tup → All (Contains (range_with_len 0 t.size)) tup
    old-tuple tup all =
        subst (λ n. All (Contains (range_with_len 0 n)) tup) (size p valid action is_action s is two of picked inside t to values all_given x done) all

    no-some : (w : UpdateForm) → None ≡ Some w → ⊥
    no-some w e = cc

    some-one : (v w : UpdateForm) → Some v ≡ Some w → v ≡ w
    some-one v w e = cc

    to-free : (f : Form) → CTo f ≡ CFree → ⊥
    to-free f e = cc

    -- an update by a formula says of the tuple what the formula says in the middle heap
    tells : (q : ℕ) (d : PredForm) → slice_get p.preds q ≡ Some d → (w : UpdateForm) (f : Form) → update_for q action.updates ≡ Some w → w.change ≡ CTo f
        → (tup : List ℕ) → length tup ≡ d.arity → All (Contains (range_with_len 0 x.size)) tup
        → Tells (value_at t q tup) (Truth middle (put_all picked w.vars (map r tup)) f)
    tells q d found w f update to_f tup long all =
        let here : UpdateOf p action q w = update-of p action is_action q w update
        in let Of : ChangeForm → Type 0 = λ c. IsChange p action here.pred w.vars c
        in let one : here.pred ≡ d = same-pred (sym here.found ∙ found)
        in value-updated p action is_action s is two picked inside t to r names q tup (old-tuple tup all) w f update to_f
        (long ∙ ap (λ (e : PredForm). e.arity) (sym one) ∙ sym here.vars.0) (λ v is_free. (subst Of to_f here.change).1 v is_free)
      where
        same-pred : {a b : PredForm} → Some a ≡ Some b → a ≡ b
        same-pred e = cc

    -- ---- core predicates

    follows : (q : ℕ) (d : PredForm) → slice_get p.preds q ≡ Some d → d.kind ≡ KCore → (tup : List ℕ) → IsTuple (heap_of x) d.arity tup
        → FollowsUpdate q middle picked (update_for q action.updates) (map r tup) new
    follows q d found core tup fits = by_update (update_for q action.updates) refl
      where
        known : kind_at p q ≡ KCore
        known = kind-found p q d found ∙ core

        by_update : (o : Option UpdateForm) → update_for q action.updates ≡ o → FollowsUpdate q middle picked (update_for q action.updates) (map r tup) new
        by_update None none =
            let kept_value = value-kept p action is_action s is two picked inside t to r names q tup (old-tuple tup fits.1) known none
            in let same : value_at x q tup ≡ value_at t q tup
            = core-same p valid action is_action s is two of picked inside t to values all_given x done q known
            (λ w other is_free. no-some w (sym none ∙ other)) tup
            in subst (λ o. FollowsUpdate q middle picked o (map r tup) new) (sym none)
            (λ h. kept_value.0 (sym same ∙ (told q tup).0 h), λ h. (told q tup).1 (same ∙ kept_value.1 h))
        by_update (Some w) update = subst (λ o. FollowsUpdate q middle picked o (map r tup) new) (sym update) (by_change w.change refl)
          where
            by_change : (c : ChangeForm) → w.change ≡ c → AllowsChange middle picked w.vars w.change (map r tup) (Holds new q (map r tup))
            by_change CFree is_free = subst (λ c. AllowsChange middle picked w.vars c (map r tup) (Holds new q (map r tup))) (sym is_free) tt
            by_change (CTo f) to_f =
                let says = (tells q d found w f update to_f tup fits.0 fits.1).yes
                in let same : value_at x q tup ≡ value_at t q tup
                = core-same p valid action is_action s is two of picked inside t to values all_given x done q known
                (λ v other is_free. to-free f (sym to_f ∙ ap (λ (y : UpdateForm). y.change) (some-one w v (sym update ∙ other)) ∙ is_free)) tup
                in subst (λ c. AllowsChange middle picked w.vars c (map r tup) (Holds new q (map r tup))) (sym to_f)
                (λ h. says.0 (sym same ∙ (told q tup).0 h), λ truth. (told q tup).1 (same ∙ says.1 truth))

    -- ---- the step

    pub steps : All (λ v. Contains (heap_of s).individuals (picked v)) action.picks → IfSome action.pre (Truth (heap_of s) picked)
        → StepsThrough p action picked (heap_of s) middle new
    steps picks pre = record {
      old_heap = heap-of_program p s is of;
      picks_individuals = picks;
      precondition = pre;
      is_middle = is-middle action.fresh;
      keeps = λ u.
          let are = (kept p action is_action s is two picked inside).are u
          in let same : map r (range_with_len 0 x.size) ≡ us
          = ap (λ n. map r (range_with_len 0 n)) (size p valid action is_action s is two of picked inside t to values all_given x done)
          ∙ origins-named p action is_action s is two picked inside t to r names
          in (
            λ at. are.0 (subst (λ ws. Contains ws u) same at),
            λ both. subst (λ ws. Contains ws u) (sym same) (are.1 both),
          );
      core = λ q d found core ws fits.
          subst (λ vs. FollowsUpdate q middle picked (update_for q action.updates) vs new) (tuple-there r back ren ws)
          (follows q d found core (map back ws) (tuple-of_old r back ren (heap_of x) d.arity ws fits));
      new_heap = heap-renamed p r back ren (heap_of x) (new-heap p valid action is_action s is two of picked inside t to values all_given x done);
      concrete = concrete-renamed p valid r back ren (heap_of x)
          (new-concrete p valid action is_action s is two of picked inside t to values all_given x done);
    }

    -- ---- given updates

    pub agrees : (q : ℕ) (d : PredForm) → slice_get p.preds q ≡ Some d → IsSameAt action t x q d ↔ AgreesAt action picked middle new q d
    agrees q d found = (
      λ same not_core w update ws fits.
          let tup_fits = tuple-of_old r back ren (heap_of x) d.arity ws fits
          in let tup : List ℕ = map back ws
          in let equal : value_at t q tup ≡ value_at x q tup = same not_core w update tup tup_fits.0 (AreIndividuals-range x.size tup tup_fits.1)
          in subst (λ vs. AllowsChange middle picked w.vars w.change vs (Holds new q vs)) (tuple-there r back ren ws)
          (forth not_core w update tup tup_fits equal w.change refl),
      λ agree not_core w update tup long within.
          let all : All (Contains (range_with_len 0 x.size)) tup = All-individuals x.size tup within
          in back_at not_core w update tup long all (agree not_core w update (map r tup) (tuple-renamed r back ren (heap_of x) d.arity tup (long, all))) w.change refl,
    )
      where
        core-free_clash : (not_core : ¬ (d.kind ≡ KCore)) (w : UpdateForm) → update_for q action.updates ≡ Some w → w.change ≡ CFree → ⊥
        core-free_clash not_core w update is_free =
            let here : UpdateOf p action q w = update-of p action is_action q w update
            in let Of : ChangeForm → Type 0 = λ c. IsChange p action here.pred w.vars c
            in not_core (ap (λ (e : PredForm). e.kind) (same-pred (sym found ∙ here.found)) ∙ subst Of is_free here.change)
          where
            same-pred : {a b : PredForm} → Some a ≡ Some b → a ≡ b
            same-pred e = cc

        forth : (not_core : ¬ (d.kind ≡ KCore)) (w : UpdateForm) → update_for q action.updates ≡ Some w → (tup : List ℕ) → IsTuple (heap_of x) d.arity tup
            → value_at t q tup ≡ value_at x q tup → (c : ChangeForm) → w.change ≡ c
            → AllowsChange middle picked w.vars w.change (map r tup) (Holds new q (map r tup))
        forth not_core w update tup fits equal CFree is_free = absurd (core-free_clash not_core w update is_free)
        forth not_core w update tup fits equal (CTo f) to_f =
            let says = (tells q d found w f update to_f tup fits.0 fits.1).yes
            in subst (λ c. AllowsChange middle picked w.vars c (map r tup) (Holds new q (map r tup))) (sym to_f)
            (λ h. says.0 (equal ∙ (told q tup).0 h), λ truth. (told q tup).1 (sym equal ∙ says.1 truth))

        back_at : (not_core : ¬ (d.kind ≡ KCore)) (w : UpdateForm) → update_for q action.updates ≡ Some w → (tup : List ℕ) → length tup ≡ d.arity
            → All (Contains (range_with_len 0 x.size)) tup → AllowsChange middle picked w.vars w.change (map r tup) (Holds new q (map r tup))
            → (c : ChangeForm) → w.change ≡ c → value_at t q tup ≡ value_at x q tup
        back_at not_core w update tup long all allows CFree is_free = absurd (core-free_clash not_core w update is_free)
        back_at not_core w update tup long all allows (CTo f) to_f =
            let says = tells q d found w f update to_f tup long all
            in let both = subst (λ c. AllowsChange middle picked w.vars c (map r tup) (Holds new q (map r tup))) to_f allows
            in same-definite (value_at t q tup) (value_at x q tup) says.definite
            ((new-two_valued p valid action is_action s is two of picked inside t to values all_given x done).values q tup)
            (λ y. (told q tup).0 (both.1 (says.yes.0 y)), λ y. says.yes.1 (both.0 ((told q tup).1 y)))

  -- ---- all of it

  has-given : HasGiven action values x
  has-given = by_values values refl
    where
      by_values : (o : Option StructureForm) → values ≡ o → HasGiven action o x
      by_values None e = λ q (w, found, is_free).
          none_some (core-free p valid action is_action s is two of picked inside t to values all_given x done q w found is_free).0
          (sym e ∙ (core-free p valid action is_action s is two of picked inside t to values all_given x done q w found is_free).1)
        where
          none_some : (v : StructureForm) → None ≡ Some v → ⊥
          none_some v f = cc
      by_values (Some vs) e = λ q (w, found, is_free) tuple within.
          let one = core-free p valid action is_action s is two of picked inside t to values all_given x done q w found is_free
          in one.4 tuple within ∙ ap (λ v. value_at v q tuple) (some_one one.0 vs (sym one.1 ∙ e))
        where
          some_one : (v w : StructureForm) → Some v ≡ Some w → v ≡ w
          some_one v w f = cc

  pub values-are : AreRetained action picked s us → (ws : List ℕ) → AreRetained action picked s ws → AreValuesFor action (length ws) values
  values-are mine ws theirs =
      let same : length ws ≡ t.size
      = ap length (kept-once p action is_action s is two picked inside ws theirs) ∙ sym (size-kept p action is_action s is two picked inside t to)
      in subst (λ n. AreValuesFor action n values) (sym same) ((values-for action is_action.updated_once t.size values).0 all_given)

  -- what was made is the step, and what is broken first is so
  pub acted : (m : Moved) → m.heap ≡ x → All (λ v. Contains (heap_of s).individuals (picked v)) action.picks
      → IfSome action.pre (Truth (heap_of s) picked) → IsFirst p.preds (IsSameAt action t x) (broken_by m)
      → IsActed p action picked values s m
  acted m is_x picks pre broken =
      let are : AreRetained action picked s us = kept p action is_action s is two picked inside
      in let found = fronts_are_renamings us (λ i j d lt within same. absurd (omega (arith, are.ascending i j d lt within, same)))
      in let r : ℕ → ℕ = found.0
      in let x_unmarked : x.fresh ≡ None = unmarked p valid action is_action s is two of picked inside t to values all_given x done
      in let named : renamed (kept_individual us) (heap_of x) ≡ renamed r (heap_of x)
      = same-names x (kept_individual us) r x_unmarked (λ u lt. sym (found.3 u (subst (λ n. u < n) new-size lt)))
      in record {
        is = subst IsStructure (sym is_x) done.is;
        over = ap arities_of is_x ∙ over p valid action is_action s is two of picked inside t to values all_given x done;
        kept = us;
        are_kept = are;
        size = ap (λ (h : StructureForm). h.size) is_x ∙ new-size;
        two_valued = subst IsTwoValued (sym is_x) (new-two_valued p valid action is_action s is two of picked inside t to values all_given x done);
        steps = subst (λ h. StepsThrough p action picked (heap_of s) middle (renamed (kept_individual us) (heap_of h))) (sym is_x)
            (subst (StepsThrough p action picked (heap_of s) middle) (sym named) (steps r found.1 found.2 found.3 picks pre));
        given = subst (HasGiven action values) (sym is_x) has-given;
        unmarked = ap (λ (h : StructureForm). h.fresh) is_x ∙ x_unmarked;
        has_values = values-are are;
        broken = subst (λ h. IsFirst p.preds (AgreesAt action picked middle (renamed (kept_individual us) (heap_of h))) (broken_by m)) (sym is_x)
            (subst (λ h. IsFirst p.preds (AgreesAt action picked middle h) (broken_by m)) (sym named)
            (first-same p.preds (IsSameAt action t x) (AgreesAt action picked middle (renamed r (heap_of x)))
            (agrees r found.1 found.2 found.3) (broken_by m) broken));
      }

-- where there are no values for what is left free, the step can't be made
pub no-values : (p : ProgramForm) (action : ActionForm) (is_action : IsAction p action) (s : StructureForm) (is : IsStructure s) (two : IsTwoValued s)
    (picked : Assignment) (inside : (v : ℕ) → Contains action.picks v → Contains (heap_of s).individuals (picked v))
    (t : StructureForm) → IsUpdatedTo p action picked s t → (values : Option StructureForm) → ¬ GivesAll t.size values action.updates
    → ¬ HasValues action picked s values
no-values p action is_action s is two picked inside t to values none has =
    none ((values-for action is_action.updated_once t.size values).1
    (subst (λ n. AreValuesFor action n values) (sym (size-kept p action is_action s is two picked inside t to))
    (has (kept_of action picked s) (kept p action is_action s is two picked inside))))
