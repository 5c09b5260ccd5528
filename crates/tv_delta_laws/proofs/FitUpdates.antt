-- The differenced program of a valid program is valid.
use Rattle.std.proofs.Common.{ℕ, ◌≡◌, ◌≢◌, ◌+◌, ◌∙◌, Bool, true, false, zero, suc, List, [], ◌∷◌, ◌++◌}
use Rattle.std.proofs.Common.{length, map, filter, Option, Some, None, inl, inr, ⊎_elim, refl, sym, ap, subst}
use Rattle.std.proofs.Common.{cond, arith, All, Contains}
use Rattle.std.specs.Prelude.{AllPairs, IfSome, IsTrue, slice_get, option_and_then}
use Rattle.std.specs.List.{zip, AllZip}
use Rattle.std.proofs.lemmas.Bool.{cond_both, false≢true}
use Rattle.std.proofs.lemmas.List.{map-append}
use Rattle.std.proofs.lemmas.List.Elements.{All-nil, All-cons, All-head, All-tail, All-weaker, All-contains}
use Rattle.std.proofs.lemmas.List.Elements.{Contains-append_left, Contains-append_right}
use Rattle.std.proofs.lemmas.List.Elements.{Contains-append_cases}
use Rattle.std.proofs.lemmas.List.Kept.{AllPairs-cons}
use Rattle.std.proofs.lemmas.Slice.Zip.{AllZip-long}
use Rattle.tv_model.specs.Form.{Form, FAtom}
use Rattle.tv_model.specs.Program.{ProgramForm, PredForm, KindForm, KCore, KDefined, ActionForm, UpdateForm}
use Rattle.tv_model.specs.Program.{ChangeForm, CFree, CTo, is_core_kind, is_core_pred}
use Rattle.tv_model.specs.Step.{update_for}
use Rattle.tv_model.specs.Valid.{IsValid, IsPred, IsVariable, IsFormulaOver, IsKind, IsAction, IsUpdate}
use Rattle.tv_model.specs.Valid.{IsChange, IsEdge, AreVariables, program_arities}
use Rattle.tv_model.proofs.Decided.{Contains-decided}
use Rattle.tv_model.proofs.Lists.{Contains-here, Contains-there, Contains-map, Contains-map_back}
use Rattle.tv_model.proofs.Lists.{Contains-filter_back, All-from_contains}
use Rattle.tv_delta_laws.specs.Simple.{is_small, simple_not, simple_and, simple_cond}
use Rattle.tv_delta_laws.specs.Putting.{Reserved, argument_for, variables, own_variables}
use Rattle.tv_delta_laws.specs.Deltas.{Delta, delta_by, unchanged, is_flagged, delta_of, delta_of_set}
use Rattle.tv_delta_laws.specs.Deltas.{delta_of_defined, delta_by_change, delta_by_update, delta_by_kind}
use Rattle.tv_delta_laws.specs.Deltas.{atom_delta, small_put}
use Rattle.tv_delta_laws.specs.Differences.{Answer, DKeep, DEvaluate, DTo, update_by, formed, answer_for}
use Rattle.tv_delta_laws.specs.Differences.{answer_by_kind, updates_by, answers_from}
use Rattle.tv_delta_laws.specs.Differences.{differenced_updates, with_updates, with_actions}
use Rattle.tv_delta_laws.specs.Differences.{IsDifferencedAction}
use Rattle.tv_delta_laws.specs.Laws.{DifferencedIsValid}
use Rattle.tv_delta_laws.proofs.Options.{if-bound, if-then}
use Rattle.tv_delta_laws.proofs.Assigned.{argument-in, argument-outside, pairs-head, pairs-tail}
use Rattle.tv_delta_laws.proofs.OwnVariables.{Owns, own-fit}
use Rattle.tv_delta_laws.proofs.PutTruths.{Keeps, small-put_keeps}
use Rattle.tv_delta_laws.proofs.DeltaTruths.{if-small}
use Rattle.tv_delta_laws.proofs.StepTruths.{arity-of_atom, its-update}
use Rattle.tv_delta_laws.proofs.AtomTruths.{its-kind, opened-fits, own-fits, or-evaluate_by, still-cases}
use Rattle.tv_delta_laws.proofs.Fits.{IsFit, FitsDelta, delta-fits, delta-wider, sim-not, sim-and, sim-cond}
use Rattle.tv_delta_laws.proofs.Fits.{unchanged-fits, own-fit_of, delta-of_fits, formula-variable}
use Rattle.tv_delta_laws.proofs.Differenced.{AnswerAt, answers-at, answer-found}

-- ---- atoms

-- a valid program and an action of it that adds no individual
pub record PlainAction (p : ProgramForm) (action : ActionForm) : Type 0 where
  pub valid : IsValid p
  pub its_action : IsAction p action
  pub still : action.fresh ≡ false

-- a formula that is set, with the arguments put in
set-fits : (p : ProgramForm) (action : ActionForm) → PlainAction p action → (r : Reserved) (q : ℕ) (d : PredForm)
    (args : List ℕ) → slice_get p.preds q ≡ Some d → IsFormulaOver (program_arities p) (FAtom q args) → (w : UpdateForm)
    → update_for q action.updates ≡ Some w → (f : Form) → w.change ≡ CTo f
    → IfSome (option_and_then (delta_of_set (FAtom q args)) (small_put r f (zip w.vars args)))
    (FitsDelta (program_arities p) action.picks (FAtom q args))
set-fits p action is r q d args found fits w updated f sets =
    let arities : List ℕ = program_arities p
    in let atom : Form = FAtom q args
    in let F : Delta → Type 0 = FitsDelta arities action.picks atom
    in if-bound (Keeps r f (zip w.vars args)) F (delta_of_set atom) (small_put r f (zip w.vars args))
    (small-put_keeps r f (zip w.vars args))
    (λ g k. let here : IsFit arities action.picks atom g = put_fits g k
    in let its : IsFit arities action.picks atom atom = own-fit_of arities action.picks atom fits (λ n. n)
    in if-small F (delta_by atom (simple_and g (simple_not atom)) (simple_and atom (simple_not g)))
    (delta-fits arities action.picks atom atom (simple_and g (simple_not atom)) (simple_and atom (simple_not g)) its
    (sim-and arities action.picks atom g (simple_not atom) here (sim-not arities action.picks atom atom its))
    (sim-and arities action.picks atom atom (simple_not g) its (sim-not arities action.picks atom g here))))
  where
    its : IsUpdate p action w × (w.pred ≡ q)
    its = its-update p action is.its_action q w updated

    over : IsChange p action its.0.0 w.vars (CTo f)
    over = let Over : ChangeForm → Type 0 = λ c. IsChange p action its.0.0 w.vars c in subst Over sets its.0.3

    as_many : length w.vars ≡ length args
    as_many =
        let AtPred : ℕ → Type 0 = λ n. slice_get p.preds n ≡ Some its.0.0
        in let there : slice_get p.preds q ≡ Some its.0.0 = subst AtPred its.1 its.0.1
        in let same : its.0.0 ≡ d = cc (there, found)
        in its.0.2.0 ∙ ap (λ (x : PredForm). x.arity) same ∙ sym (arity-of_atom p q d args found fits)

    put_fits : (g : Form) → Keeps r f (zip w.vars args) g → IsFit (program_arities p) action.picks (FAtom q args) g
    put_fits g k = record {
      formula = k.fits (program_arities p) over.0.0 (λ x free.
          ⊎_elim
          (λ at. All-contains IsVariable args (argument_for (zip w.vars args) x) fits.1 (argument-in w.vars args x as_many at))
          (λ out. subst IsVariable (sym (argument-outside w.vars args x out))
          (formula-variable (program_arities p) x f over.0.0 free))
          (Contains-decided w.vars x));
      plain = λ n. let fresh : IsTrue action.fresh = over.0.1 (k.marks n)
          in let At : Bool → Type 0 = λ b. IsTrue b
          in false≢true (subst At is.still fresh);
      free = λ x at.
          let back = k.free x at
          in ⊎_elim
          (λ among. let In : ℕ → Type 0 = λ y. Contains args y
          in inl (subst In back.2 (argument-in w.vars args back.0 as_many among)))
          (λ out. let same : back.0 ≡ x = sym (argument-outside w.vars args back.0 out) ∙ back.2
          in let In : ℕ → Type 0 = λ y. Contains action.picks y
          in inr (subst In same (⊎_elim (λ t. absurd (out t)) (λ t. t)
          (Contains-append_cases w.vars action.picks back.0 (over.1 back.0 back.1)))))
          (Contains-decided w.vars back.0);
    }

-- the delta of a definition, with the arguments put in
definition-fits : (p : ProgramForm) (action : ActionForm) (affected : List Bool) → PlainAction p action → (r : Reserved)
    → (atoms : ℕ → List ℕ → Option Delta)
    → ((q : ℕ) (args : List ℕ) → IsFormulaOver (program_arities p) (FAtom q args)
    → IfSome (atoms q args) (FitsDelta (program_arities p) action.picks (FAtom q args)))
    → (q : ℕ) (d : PredForm) (vars : List ℕ) (body : Form) (args : List ℕ) → slice_get p.preds q ≡ Some d
    → d.kind ≡ KDefined vars body → IsFormulaOver (program_arities p) (FAtom q args)
    → IfSome (option_and_then (delta_of atoms affected) (small_put r body (zip vars args)))
    (FitsDelta (program_arities p) action.picks (FAtom q args))
definition-fits p action affected is r atoms each q d vars body args found defined fits =
    let arities : List ℕ = program_arities p
    in let kind : IsKind p d.arity (KDefined vars body) = its-kind p is.valid q d vars body found defined
    in let as_many : length vars ≡ length args = kind.0.0 ∙ sym (arity-of_atom p q d args found fits)
    in if-bound (Keeps r body (zip vars args)) (FitsDelta arities action.picks (FAtom q args)) (delta_of atoms affected)
    (small_put r body (zip vars args)) (small-put_keeps r body (zip vars args))
    (λ g k. if-then (FitsDelta arities action.picks g) (FitsDelta arities action.picks (FAtom q args))
    (delta_of atoms affected g)
    (delta-of_fits arities action.picks affected atoms each g
    (opened-fits p is.valid q d vars body args found defined fits r g k) (λ n. kind.1.1 (k.marks n)))
    (λ e at. delta-wider arities action.picks g (FAtom q args) e
    (λ x free. let back = k.free x free
    in let In : ℕ → Type 0 = λ y. Contains args y
    in subst In back.2 (argument-in vars args back.0 as_many (kind.2 back.0 back.1))) at))

by-kind_fits : (p : ProgramForm) (action : ActionForm) (affected : List Bool) → PlainAction p action → (r : Reserved)
    → (inner : ℕ → List ℕ → Option Delta)
    → ((q : ℕ) (args : List ℕ) → IsFormulaOver (program_arities p) (FAtom q args)
    → IfSome (inner q args) (FitsDelta (program_arities p) action.picks (FAtom q args)))
    → (q : ℕ) (args : List ℕ) → IsFormulaOver (program_arities p) (FAtom q args) → (d : PredForm)
    → slice_get p.preds q ≡ Some d → (kind : KindForm) → d.kind ≡ kind
    → IfSome (delta_by_kind r affected action inner q args kind) (FitsDelta (program_arities p) action.picks (FAtom q args))
by-kind_fits p action affected is r inner each q args fits d found KCore kind =
    go (update_for q action.updates) refl
  where
    changed : (w : UpdateForm) → update_for q action.updates ≡ Some w → (c : ChangeForm) → w.change ≡ c
        → IfSome (delta_by_change r (FAtom q args) w.vars args c) (FitsDelta (program_arities p) action.picks (FAtom q args))
    changed w updated CFree sets = tt
    changed w updated (CTo f) sets = set-fits p action is r q d args found fits w updated f sets

    go : (o : Option UpdateForm) → update_for q action.updates ≡ o
        → IfSome (delta_by_update r (FAtom q args) args o) (FitsDelta (program_arities p) action.picks (FAtom q args))
    go None e = tt
    go (Some w) e = changed w e w.change refl
by-kind_fits p action affected is r inner each q args fits d found (KDefined vars body) kind =
    let arities : List ℕ = program_arities p
    in let F : Delta → Type 0 = FitsDelta arities action.picks (FAtom q args)
    in if-bound F F (delta_of_defined (FAtom q args))
    (option_and_then (delta_of inner affected) (small_put r body (zip vars args)))
    (definition-fits p action affected is r inner each q d vars body args found kind fits)
    (λ e at. delta-fits arities action.picks (FAtom q args) (FAtom q args) e.up e.down
    (own-fit_of arities action.picks (FAtom q args) fits (λ n. n)) at.up at.down)

atoms-fit : (p : ProgramForm) (action : ActionForm) (affected : List Bool) → PlainAction p action → (r : Reserved) (n q : ℕ)
    (args : List ℕ) → IsFormulaOver (program_arities p) (FAtom q args)
    → IfSome (atom_delta n p action r affected q args) (FitsDelta (program_arities p) action.picks (FAtom q args))
atoms-fit p action affected is r zero q args fits = tt
atoms-fit p action affected is r (suc n) q args fits =
    cond_both (is_flagged affected q)
    (option_and_then (λ d. delta_by_kind r affected action (atom_delta n p action r affected) q args d.kind)
    (slice_get p.preds q))
    (unchanged (FAtom q args)) (λ o. IfSome o (FitsDelta (program_arities p) action.picks (FAtom q args)))
    (λ e. found_or_not (λ s vs fit. atoms-fit p action affected is r n s vs fit) (slice_get p.preds q) refl)
    (λ e. unchanged-fits (program_arities p) action.picks (FAtom q args) (FAtom q args)
    (own-fit_of (program_arities p) action.picks (FAtom q args) fits (λ n. n)))
  where
    found_or_not : ((s : ℕ) (vs : List ℕ) → IsFormulaOver (program_arities p) (FAtom s vs)
        → IfSome (atom_delta n p action r affected s vs) (FitsDelta (program_arities p) action.picks (FAtom s vs)))
        → (o : Option PredForm) → slice_get p.preds q ≡ o
        → IfSome (option_and_then (λ d. delta_by_kind r affected action (atom_delta n p action r affected) q args d.kind) o)
        (FitsDelta (program_arities p) action.picks (FAtom q args))
    found_or_not each None e = tt
    found_or_not each (Some d) e =
        by-kind_fits p action affected is r (atom_delta n p action r affected) each q args fits d e d.kind refl

-- ---- answers

-- an update that is an answer is one of the action
abbrev pub AnswerFits : ProgramForm → ActionForm → PredForm → Answer → Type 0
AnswerFits p action d DKeep = Unit {0}
AnswerFits p action d DEvaluate = Unit {0}
AnswerFits p action d (DTo own f) = AreVariables d.arity own × IsChange p action d own (CTo f)

formed-fits : (p : ProgramForm) (action : ActionForm) (affected : List Bool) → PlainAction p action
    → (q : ℕ) (d : PredForm) (vars : List ℕ) (body : Form) → slice_get p.preds q ≡ Some d → d.kind ≡ KDefined vars body
    → AnswerFits p action d (formed p action affected q vars body)
formed-fits p action affected is q d vars body found defined =
    let used : List ℕ = action.picks ++ (vars ++ variables body)
    in let opened : List ℕ → Option Delta = λ own.
    let r : Reserved = record { picks = action.picks; own = own }
    in option_and_then (delta_of (atom_delta (length p.preds) p action r affected) affected) (small_put r body (zip vars own))
    in let inner : List ℕ → Option Answer = λ own. option_and_then (λ e. Some (update_by q own e)) (opened own)
    in or-evaluate_by (AnswerFits p action d) tt (option_and_then inner (own_variables action.picks used vars))
    (if-bound (Owns action.picks used vars) (AnswerFits p action d) inner (own_variables action.picks used vars)
    (own-fit action.picks used vars
    (λ x at. Contains-append_right action.picks (vars ++ variables body) x (Contains-append_left vars (variables body) x at))
    (λ x at. Contains-append_left action.picks (vars ++ variables body) x at) kind.0.2)
    (λ own owns. if-bound (FitsDelta (program_arities p) action.picks (FAtom q own)) (AnswerFits p action d)
    (λ e. Some (update_by q own e)) (opened own)
    (definition-fits p action affected is (record { picks = action.picks; own = own })
    (atom_delta (length p.preds) p action (record { picks = action.picks; own = own }) affected)
    (λ s vs fit. atoms-fit p action affected is (record { picks = action.picks; own = own }) (length p.preds) s vs fit)
    q d vars body own found defined (own-fits p is.valid q d vars body found defined action.picks used own owns))
    (λ e at. by_own own used owns e at)))
  where
    kind : IsKind p d.arity (KDefined vars body)
    kind = its-kind p is.valid q d vars body found defined

    by_own : (own used : List ℕ) → Owns action.picks used vars own → (e : Delta)
        → FitsDelta (program_arities p) action.picks (FAtom q own) e → AnswerFits p action d (update_by q own e)
    by_own own used owns e at =
        let f : Form = simple_cond (FAtom q own) (simple_not e.down) e.up
        in let atom : IsFormulaOver (program_arities p) (FAtom q own)
        = own-fits p is.valid q d vars body found defined action.picks used own owns
        in let fit : IsFit (program_arities p) action.picks (FAtom q own) f
        = sim-cond (program_arities p) action.picks (FAtom q own) (FAtom q own) (simple_not e.down) e.up
        (own-fit_of (program_arities p) action.picks (FAtom q own) atom (λ n. n))
        (sim-not (program_arities p) action.picks (FAtom q own) e.down at.down) at.up
        in cond_both (is_small f) (DTo own f) DEvaluate (AnswerFits p action d)
        (λ small. (
          (owns.as_many ∙ kind.0.0, owns.variables kind.0.1, owns.differ),
          (
            (fit.formula, λ n. absurd (fit.plain n)),
            λ v free. ⊎_elim (λ t. Contains-append_left own action.picks v t) (λ t. Contains-append_right own action.picks v t)
                (fit.free v free),
          ),
        ))
        (λ large. tt)

answer-fits : (p : ProgramForm) (action : ActionForm) (affected : List Bool) → IsValid p → IsAction p action
    → (q : ℕ) (d : PredForm) (vars : List ℕ) (body : Form) → slice_get p.preds q ≡ Some d → d.kind ≡ KDefined vars body
    → AnswerFits p action d (answer_for p action affected q vars body)
answer-fits p action affected valid is q d vars body found defined =
    still-cases p action affected q vars body (AnswerFits p action d) tt
    (λ stays none flagged. formed-fits p action affected (record { valid = valid; its_action = is; still = stays })
    q d vars body found defined)
    (λ stays none unflagged. tt)

-- an update that differencing makes is one of the action
answer-is_update : (p : ProgramForm) (action : ActionForm) (affected : List Bool) → IsValid p → IsAction p action
    → (w : UpdateForm) → AnswerAt p action affected 0 p.preds w → IsUpdate p action w
answer-is_update p action affected valid is w at = go at.pred.kind refl at.answer
  where
    go : (k : KindForm) → at.pred.kind ≡ k → answer_by_kind p action affected w.pred k ≡ DTo w.vars at.formula
        → IsUpdate p action w
    go KCore e answer = absurd (cc answer)
    go (KDefined vars body) e answer =
        let fits : AnswerFits p action at.pred (answer_for p action affected w.pred vars body)
        = answer-fits p action affected valid is w.pred at.pred vars body (answer-found p action affected w at) e
        in let update : AnswerFits p action at.pred (DTo w.vars at.formula) = subst (AnswerFits p action at.pred) answer fits
        in let Of : ChangeForm → Type 0 = λ c. IsChange p action at.pred w.vars c
        in (at.pred, answer-found p action affected w at, update.0, subst Of (sym at.change) update.1)

-- ---- each predicate at most once

pairs-append : (xs ys : List ℕ) → AllPairs ◌≢◌ xs → AllPairs ◌≢◌ ys
    → ((x y : ℕ) → Contains xs x → Contains ys y → x ≢ y) → AllPairs ◌≢◌ (xs ++ ys)
pairs-append [] ys one two apart = two
pairs-append (x ∷ xs) ys one two apart =
    AllPairs-cons ◌≢◌ x (xs ++ ys)
    (All-from_contains (λ y. x ≢ y) (xs ++ ys) (λ y at e.
    ⊎_elim
    (λ here. let At : ℕ → Type 0 = λ z. Contains xs z in pairs-head x xs one (subst At (sym e) here))
    (λ there. apart x y (Contains-here x xs) there e)
    (Contains-append_cases xs ys y at)))
    (pairs-append xs ys (pairs-tail x xs one) two (λ z y at there. apart z y (Contains-there x z xs at) there))

pairs-filtered : (keep : UpdateForm → Bool) (ws : List UpdateForm) → AllPairs ◌≢◌ (map (λ w. w.pred) ws)
    → AllPairs ◌≢◌ (map (λ w. w.pred) (filter keep ws))
pairs-filtered keep [] apart = apart
pairs-filtered keep (w ∷ ws) apart = go (keep w) (pairs-filtered keep ws (pairs-tail w.pred (map (λ w. w.pred) ws) apart))
  where
    go : (b : Bool) → AllPairs ◌≢◌ (map (λ w. w.pred) (filter keep ws))
        → AllPairs ◌≢◌ (map (λ w. w.pred) (cond b (w ∷ filter keep ws) (filter keep ws)))
    go true later =
        AllPairs-cons ◌≢◌ w.pred (map (λ w. w.pred) (filter keep ws))
        (All-from_contains (λ y. w.pred ≢ y) (map (λ w. w.pred) (filter keep ws)) (λ y at e.
        let from = Contains-map_back (λ (u : UpdateForm). u.pred) (filter keep ws) y at
        in pairs-head w.pred (map (λ w. w.pred) ws) apart
        (let At : ℕ → Type 0 = λ z. Contains (map (λ w. w.pred) ws) z
        in subst At (from.2 ∙ sym e)
        (Contains-map (λ (u : UpdateForm). u.pred) from.0 ws (Contains-filter_back keep ws from.0 from.1).0))))
        later
    go false later = later

answers-differ : (p : ProgramForm) (action : ActionForm) (affected : List Bool) (k : ℕ) (preds : List PredForm)
    → AllPairs ◌≢◌ (map (λ w. w.pred) (answers_from p action affected k preds))
answers-differ p action affected k [] = λ i j d below within. absurd (omega (arith, within))
answers-differ p action affected k (d ∷ preds) =
    go (answer_by_kind p action affected k d.kind) (answers-differ p action affected (k + 1) preds)
  where
    go : (x : Answer) → AllPairs ◌≢◌ (map (λ w. w.pred) (answers_from p action affected (k + 1) preds))
        → AllPairs ◌≢◌ (map (λ w. w.pred) (updates_by k x ++ answers_from p action affected (k + 1) preds))
    go DKeep later = later
    go DEvaluate later = later
    go (DTo vars f) later =
        AllPairs-cons ◌≢◌ k (map (λ w. w.pred) (answers_from p action affected (k + 1) preds))
        (All-from_contains (λ y. k ≢ y) (map (λ w. w.pred) (answers_from p action affected (k + 1) preds)) (λ y at e.
        let from = Contains-map_back (λ (u : UpdateForm). u.pred) (answers_from p action affected (k + 1) preds) y at
        in let it : AnswerAt p action affected (k + 1) preds from.0
        = answers-at p action affected (k + 1) preds from.0 from.1
        in omega (arith, e, from.2, it.number)))
        later

updated-once : (p : ProgramForm) (action : ActionForm) (affected : List Bool) → IsAction p action
    → AllPairs ◌≢◌ (map (λ w. w.pred) (differenced_updates p action affected))
updated-once p action affected is =
    let keep : UpdateForm → Bool = λ w. is_core_pred (slice_get p.preds w.pred)
    in let given : List UpdateForm = filter keep action.updates
    in let made : List UpdateForm = answers_from p action affected 0 p.preds
    in subst (AllPairs ◌≢◌) (sym (map-append (λ (w : UpdateForm). w.pred) given made))
    (pairs-append (map (λ w. w.pred) given) (map (λ w. w.pred) made)
    (pairs-filtered keep action.updates is.updated_once) (answers-differ p action affected 0 p.preds)
    (λ x y one two e.
    let w = Contains-map_back (λ (u : UpdateForm). u.pred) given x one
    in let u = Contains-map_back (λ (u : UpdateForm). u.pred) made y two
    in apart w.0 u.0 (Contains-filter_back keep action.updates w.0 w.1).1 (answers-at p action affected 0 p.preds u.0 u.1)
    (w.2 ∙ e ∙ sym u.2)))
  where
    not_core : (w : UpdateForm) (pred : PredForm) (f : Form) → is_core_kind pred.kind ≡ true
        → answer_by_kind p action affected w.pred pred.kind ≡ DTo w.vars f → ⊥
    not_core w pred f core answer = go pred.kind core answer
      where
        go : (k : KindForm) → is_core_kind k ≡ true → answer_by_kind p action affected w.pred k ≡ DTo w.vars f → ⊥
        go KCore e answered = cc answered
        go (KDefined vars body) e answered = false≢true e

    apart : (w u : UpdateForm) → is_core_pred (slice_get p.preds w.pred) ≡ true → AnswerAt p action affected 0 p.preds u
        → w.pred ≡ u.pred → ⊥
    apart w u core at same =
        let At : ℕ → Type 0 = λ n. is_core_pred (slice_get p.preds n) ≡ true
        in let Of : Option PredForm → Type 0 = λ o. is_core_pred o ≡ true
        in not_core u at.pred at.formula (subst Of (answer-found p action affected u at) (subst At same core)) at.answer

-- ---- the program

action-valid : (p : ProgramForm) (actions : List ActionForm) (action : ActionForm) (affected : List Bool) → IsValid p
    → IsAction p action → IsAction (with_actions p actions) (with_updates action (differenced_updates p action affected))
action-valid p actions action affected valid is = record {
  precondition = is.precondition;
  focus = is.focus;
  messages = is.messages;
  message_count = is.message_count;
  retain = is.retain;
  updates = All-from_contains (IsUpdate p action) (differenced_updates p action affected) (λ w at.
      ⊎_elim
      (λ given. All-contains (IsUpdate p action) action.updates w is.updates
      (Contains-filter_back (λ w. is_core_pred (slice_get p.preds w.pred)) action.updates w given).0)
      (λ made. answer-is_update p action affected valid is w (answers-at p action affected 0 p.preds w made))
      (Contains-append_cases (filter (λ w. is_core_pred (slice_get p.preds w.pred)) action.updates)
      (answers_from p action affected 0 p.preds) w at));
  updated_once = updated-once p action affected is;
}

zipped-all : {X Y : Type 0} (R : X → Y → Type 0) (P : X → Type 0) (Q : Y → Type 0) (xs : List X) (ys : List Y)
    → AllZip R xs ys → All P xs → ((x : X) (y : Y) → P x → R x y → Q y) → All Q ys
zipped-all R P Q [] [] zipped all each = All-nil Q
zipped-all R P Q [] (y ∷ ys) zipped all each = absurd zipped
zipped-all R P Q (x ∷ xs) [] zipped all each = absurd zipped
zipped-all R P Q (x ∷ xs) (y ∷ ys) zipped all each =
    All-cons Q y ys (each x y (All-head P x xs all) zipped.0)
    (zipped-all R P Q xs ys zipped.1 (All-tail P x xs all) each)

pub differenced_is_valid : DifferencedIsValid
differenced_is_valid p new valid is =
    let actions : List ActionForm = new.actions
    in let q : ProgramForm = with_actions p actions
    in subst IsValid (sym is.rest) (record {
      preds = All-weaker (IsPred p) (IsPred q)
          (λ d at. record { name = at.name; arity = at.arity; kind = at.kind; props = at.props }) p.preds valid.preds;
      pred_names_differ = valid.pred_names_differ;
      pred_count = valid.pred_count;
      rank = valid.rank;
      no_cycle = record { falls = valid.no_cycle.falls };
      rules = valid.rules;
      rule_count = valid.rule_count;
      actions = zipped-all (IsDifferencedAction p) (IsAction p) (IsAction q) p.actions actions is.actions valid.actions
          (λ a b its t. subst (IsAction q) (sym t.2) (action-valid p actions a t.0 valid its));
      edges = All-weaker (IsEdge p) (IsEdge q)
          (λ e at. (at.0, at.1, omega (arith, at.2, AllZip-long (IsDifferencedAction p) p.actions actions is.actions)))
          p.edges valid.edges;
      some_edge = valid.some_edge;
      edge_count = valid.edge_count;
      nodes = valid.nodes;
      node_names_differ = valid.node_names_differ;
      node_count = valid.node_count;
    })
