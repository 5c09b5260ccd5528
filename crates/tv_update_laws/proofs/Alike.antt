-- Two middle structures that are alike, under picks that are, give the same.
use Rattle.std.proofs.Common.{ℕ, ◌≡◌, ◌++◌, Bool, true, false, List, [], ◌∷◌, length, map, filter, Option}
use Rattle.std.proofs.Common.{None, Some, ⊎_elim, refl, sym, ap, subst, ◌∙◌, All, Contains, cond, eqb, eq-eqb}
use Rattle.std.proofs.Common.{ne_eqb}
use Rattle.std.specs.List.{AllZip}
use Rattle.std.proofs.lemmas.Bool.{cases_eq, cond-true, cond-false}
use Rattle.std.proofs.lemmas.List.{length-map, map-append}
use Rattle.std.proofs.lemmas.List.Elements.{All-map, Contains-append_cases}
use Rattle.tv_kleene.specs.declared.K3.{K3}
use Rattle.tv_kleene.specs.declared.K3.TheVariants.{No, Half, Yes}
use Rattle.tv_model.specs.declared.program.Mode.{Mode}
use Rattle.tv_model.specs.Form.{Form}
use Rattle.tv_model.specs.Program.{ProgramForm, PredForm, KindForm, KCore, KDefined, ActionForm, RetainForm}
use Rattle.tv_model.specs.Program.{UpdateForm, ChangeForm, CFree, CTo}
use Rattle.tv_model.specs.Truth.{Assignment, put_all}
use Rattle.tv_model.specs.Valid.{IsOver, IsAction, IsRetain, IsChange}
use Rattle.tv_model.proofs.Lists.{All-from_contains, Contains-here, Contains-there, Contains-none}
use Rattle.tv_model.proofs.Lists.{Contains-cases, Contains-map, Contains-map_back, map-compose}
use Rattle.tv_model.proofs.Decided.{Contains-decided}
use Rattle.tv_embedding_laws.specs.LogicalStructure.{LogicalStructure}
use Rattle.tv_eval_laws.specs.Value.{value}
use Rattle.tv_update_laws.specs.Applied.{keep_value, changed_value, updated_value, kind_at, update_at}
use Rattle.tv_update_laws.specs.Applied.{new_value, IsNew}
use Rattle.tv_update_laws.specs.Choices.{with_choice, choices_of, stays_in, AreNew}
use Rattle.tv_update_laws.proofs.Facts.{any-found, any-none}
use Rattle.tv_update_laws.proofs.Filters.{filter-alike, kept-origin}
use Rattle.tv_update_laws.proofs.Updates.{UpdateOf, used-update-of}

-- r renames the individuals of m to those of n, and the formulas of the action have the same values in both,
-- under a and b for the picked variables
pub record Alike (action : ActionForm) (r : ℕ → ℕ) (m n : LogicalStructure) (a b : Assignment) : Type 0 where
  pub individuals : map r m.individuals ≡ n.individuals
  pub injective : (u w : ℕ) → Contains m.individuals u → Contains m.individuals w → r u ≡ r w → u ≡ w
  pub values : (q : ℕ) (tuple : List ℕ) → All (Contains m.individuals) tuple
      → m.value q tuple ≡ n.value q (map r tuple)
  pub summaries : (u : ℕ) → Contains m.individuals u → m.is_summary u ≡ n.is_summary (r u)
  pub formulas : (f : Form) (vars tuple : List ℕ) → IsOver (vars ++ action.picks) f
      → length tuple ≡ length vars → All (Contains m.individuals) tuple
      → value m (put_all a vars tuple) f ≡ value n (put_all b vars (map r tuple)) f

-- ---- choices

front-mapped : (r : ℕ → ℕ) (u : ℕ) (later : List (List ℕ))
    → map (λ us. r u ∷ us) (map (map r) later) ≡ map (map r) (map (λ us. u ∷ us) later)
front-mapped r u later =
    map-compose (map r) (λ us. r u ∷ us) later ∙ sym (map-compose (λ us. u ∷ us) (map r) later)

with-choice-mapped : (r : ℕ → ℕ) (k : K3) (u : ℕ) (later : List (List ℕ))
    → with_choice k (r u) (map (map r) later) ≡ map (map r) (with_choice k u later)
with-choice-mapped r No u later = refl
with-choice-mapped r Half u later =
    ap (λ rest. map (map r) later ++ rest) (front-mapped r u later)
    ∙ sym (map-append (map r) later (map (λ us. u ∷ us) later))
with-choice-mapped r Yes u later = front-mapped r u later

-- the choices among renamed individuals are the renamed choices
pub choices-mapped : (r : ℕ → ℕ) (one other : ℕ → K3) (us : List ℕ)
    → ((u : ℕ) → Contains us u → one u ≡ other (r u))
    → choices_of other (map r us) ≡ map (map r) (choices_of one us)
choices-mapped r one other [] same = refl
choices-mapped r one other (u ∷ us) same =
    ap (λ k. with_choice k (r u) (choices_of other (map r us))) (sym (same u (Contains-here u us)))
    ∙ ap (with_choice (one u) (r u))
    (choices-mapped r one other us (λ w at. same w (Contains-there u w us at)))
    ∙ with-choice-mapped r (one u) u (choices_of one us)

-- the individuals of a choice are some of those
pub choices-inside : (one : ℕ → K3) (us ws : List ℕ) → Contains (choices_of one us) ws
    → (u : ℕ) → Contains ws u → Contains us u
choices-inside one [] ws at u there =
    ⊎_elim (λ e. subst (λ xs. Contains xs u) (sym e) there) (λ none. absurd (Contains-none ws none))
    (Contains-cases [] ws [] at)
choices-inside one (w ∷ us) ws at u there =
    by_value (λ xs old in_xs. choices-inside one us xs old u in_xs) (one w) at
  where
    front : ((xs : List ℕ) → Contains (choices_of one us) xs → Contains xs u → Contains us u)
        → Contains (map (λ xs. w ∷ xs) (choices_of one us)) ws → Contains (w ∷ us) u
    front inside fronted =
        let d : (xs : List ℕ) × Contains (choices_of one us) xs × ((w ∷ xs) ≡ ws) =
        Contains-map_back (λ xs. w ∷ xs) (choices_of one us) ws fronted
        in let In : List ℕ → Type 0 = λ ys. Contains ys u
        in ⊎_elim
        (λ e. subst (Contains (w ∷ us)) e (Contains-here w us))
        (λ old. Contains-there w u us (inside d.0 d.1 old))
        (Contains-cases w u d.0 (subst In (sym d.2) there))

    by_value : ((xs : List ℕ) → Contains (choices_of one us) xs → Contains xs u → Contains us u)
        → (k : K3) → Contains (with_choice k w (choices_of one us)) ws → Contains (w ∷ us) u
    by_value inside No old = Contains-there w u us (inside ws old there)
    by_value inside Half either =
        ⊎_elim (λ old. Contains-there w u us (inside ws old there)) (front inside)
        (Contains-append_cases (choices_of one us) (map (λ xs. w ∷ xs) (choices_of one us)) ws either)
    by_value inside Yes fronted = front inside fronted

-- ---- what an action gives

filter-mapped : (r : ℕ → ℕ) (test : ℕ → Bool) (us : List ℕ)
    → filter test (map r us) ≡ map r (filter (λ u. test (r u)) us)
filter-mapped r test [] = refl
filter-mapped r test (u ∷ us) =
    ap (λ rest. cond (test (r u)) (r u ∷ rest) rest) (filter-mapped r test us) ∙ both (test (r u))
  where
    both : (b : Bool) → cond b (r u ∷ map r (filter (λ w. test (r w)) us))
        (map r (filter (λ w. test (r w)) us))
        ≡ map r (cond b (u ∷ filter (λ w. test (r w)) us) (filter (λ w. test (r w)) us))
    both true = refl
    both false = refl

module _ (p : ProgramForm) (mode : Mode) (action : ActionForm) (valid : IsAction p action) (r : ℕ → ℕ)
    (m n : LogicalStructure) (a b : Assignment) (alike : Alike action r m n a b) where
  pub keep-alike : (u : ℕ) → Contains m.individuals u
      → keep_value m a action.retain u ≡ keep_value n b action.retain (r u)
  keep-alike u at = by_retain action.retain valid.retain
    where
      by_retain : (o : Option RetainForm) → IsRetain p action o → keep_value m a o u ≡ keep_value n b o (r u)
      by_retain None is = refl
      by_retain (Some retain) is =
          alike.formulas retain.keep (retain.var ∷ []) (u ∷ []) is.1 refl
          (All-from_contains (Contains m.individuals) (u ∷ []) (λ w there.
          ⊎_elim (λ e. subst (Contains m.individuals) e at) (λ none. absurd (Contains-none w none))
          (Contains-cases u w [] there)))

  pub choices-alike : choices_of (keep_value n b action.retain) n.individuals
      ≡ map (map r) (choices_of (keep_value m a action.retain) m.individuals)
  choices-alike =
      ap (choices_of (keep_value n b action.retain)) (sym alike.individuals)
      ∙ choices-mapped r (keep_value m a action.retain)
      (keep_value n b action.retain) m.individuals keep-alike

  -- whether an individual stays
  stays-alike : (us : List ℕ) → ((w : ℕ) → Contains us w → Contains m.individuals w)
      → (u : ℕ) → Contains m.individuals u → stays_in (map r us) (r u) ≡ stays_in us u
  stays-alike us inside u at =
      ⊎_elim
      (λ there. any-found (r u) (map r us) (Contains-map r u us there) ∙ sym (any-found u us there))
      (λ none. any-none (r u) (map r us) (λ there.
      let d : (w : ℕ) × Contains us w × (r w ≡ r u) = Contains-map_back r us (r u) there
      in none (subst (Contains us) (alike.injective d.0 u (inside d.0 d.1) at d.2) d.1))
      ∙ sym (any-none u us none))
      (Contains-decided us u)

  change-alike : (vars : List ℕ) (change : ChangeForm) (d : PredForm) → IsChange p action d vars change
      → (tuple : List ℕ) → All (Contains m.individuals) tuple → length tuple ≡ length vars
      → changed_value m a vars change tuple ≡ changed_value n b vars change (map r tuple)
  change-alike vars CFree d is tuple all fits = refl
  change-alike vars (CTo f) d is tuple all fits = alike.formulas f vars tuple is.1 fits all

  updated-alike : (q : ℕ) (w : UpdateForm) → update_at p mode action q ≡ Some w
      → (tuple : List ℕ) → All (Contains m.individuals) tuple
      → updated_value m a w tuple ≡ updated_value n b w (map r tuple)
  updated-alike q w used tuple all =
      let of : UpdateOf p action q w = used-update-of p mode action valid q w used
      in ⊎_elim
      (λ fits. cond-true (eqb (length tuple) (length w.vars)) (changed_value m a w.vars w.change tuple) No
      (eq-eqb _ _ fits)
      ∙ change-alike w.vars w.change of.pred of.change tuple all fits
      ∙ sym (cond-true (eqb (length (map r tuple)) (length w.vars))
      (changed_value n b w.vars w.change (map r tuple)) No
      (eq-eqb _ _ (length-map tuple r ∙ fits))))
      (λ misfit. cond-false (eqb (length tuple) (length w.vars)) (changed_value m a w.vars w.change tuple) No
      (ne_eqb _ _ misfit)
      ∙ sym (cond-false (eqb (length (map r tuple)) (length w.vars))
      (changed_value n b w.vars w.change (map r tuple)) No
      (ne_eqb _ _ (λ e. misfit (sym (length-map tuple r) ∙ e)))))
      (cases_eq (length tuple) (length w.vars))

  new-alike : (t : LogicalStructure) (changed : Bool) (q : ℕ) (used : Option UpdateForm)
      → update_at p mode action q ≡ used
      → (kind : KindForm) (origin tuple : List ℕ) → All (Contains m.individuals) origin
      → new_value m t a changed used kind q origin tuple ≡ new_value n t b changed used kind q
      (map r origin) tuple
  new-alike t changed q (Some w) is kind origin tuple all = updated-alike q w is origin all
  new-alike t changed q None is KCore origin tuple all = alike.values q origin all
  new-alike t true q None is (KDefined vars body) origin tuple all = refl
  new-alike t false q None is (KDefined vars body) origin tuple all = alike.values q origin all

  -- a new structure of the one is one of the other
  pub IsNew-alike : (us : List ℕ) → ((w : ℕ) → Contains us w → Contains m.individuals w)
      → (t : LogicalStructure)
      → IsNew p mode action a m (stays_in us) t → IsNew p mode action b n (stays_in (map r us)) t
  IsNew-alike us inside t is = record {
    origin = λ u. r (is.origin u);
    origins =
        sym (map-compose is.origin r t.individuals) ∙ ap (map r) is.origins
        ∙ ap (map r) (filter-alike (stays_in us) (λ u. stays_in (map r us) (r u)) m.individuals
        (λ u at. sym (stays-alike us inside u at)))
        ∙ sym (filter-mapped r (stays_in (map r us)) m.individuals)
        ∙ ap (filter (stays_in (map r us))) alike.individuals;
    differ = λ u w hu hw e. is.differ u w hu hw
        (alike.injective (is.origin u) (is.origin w) (from u hu) (from w hw) e);
    changed = is.changed;
    are_changed = is.are_changed;
    values = λ q tuple all.
        is.values q tuple all
        ∙ new-alike t (is.changed q) q (update_at p mode action q) refl (kind_at p q)
        (map is.origin tuple) tuple
        (All-map (Contains m.individuals) is.origin tuple (λ k d lt. from _ (all k d lt)))
        ∙ ap (λ us. new_value n t b (is.changed q) (update_at p mode action q) (kind_at p q) q us tuple)
        (map-compose is.origin r tuple);
    summaries = λ u at. is.summaries u at ∙ alike.summaries (is.origin u) (from u at);
    no_mark = is.no_mark;
  }
    where
      from : (u : ℕ) → Contains t.individuals u → Contains m.individuals (is.origin u)
      from u at = (kept-origin is.origin t.individuals m.individuals (stays_in us) is.origins u at).0

  all-alike : (uss : List (List ℕ))
      → ((us : List ℕ) → Contains uss us → (w : ℕ) → Contains us w → Contains m.individuals w)
      → (ts : List LogicalStructure) → AllZip (λ us t. IsNew p mode action a m (stays_in us) t) uss ts
      → AllZip (λ us t. IsNew p mode action b n (stays_in us) t) (map (map r) uss) ts
  all-alike [] inside [] zip = zip
  all-alike [] inside (t ∷ ts) zip = zip
  all-alike (us ∷ uss) inside [] zip = zip
  all-alike (us ∷ uss) inside (t ∷ ts) zip = (
    IsNew-alike us (inside us (Contains-here us uss)) t zip.0,
    all-alike uss (λ ws at. inside ws (Contains-there us ws uss at)) ts zip.1,
  )

  pub AreNew-alike : (ts : List LogicalStructure) → AreNew p mode action a m ts → AreNew p mode action b n ts
  AreNew-alike ts zip =
      subst (λ uss. AllZip (λ us t. IsNew p mode action b n (stays_in us) t) uss ts) (sym choices-alike)
      (all-alike (choices_of (keep_value m a action.retain) m.individuals)
      (λ us at w there. choices-inside (keep_value m a action.retain) m.individuals us at w there) ts zip)
