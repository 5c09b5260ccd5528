-- What answers say, and what is promised of them.
use Rattle.std.proofs.Common.{ℕ, ◌≡◌, ◌≢◌, ◌∙◌, ◌↔◌, Bool, true, false, List, [], ◌∷◌, ◌++◌, Option, Some}
use Rattle.std.proofs.Common.{None, refl, sym, ap, subst, cond, Contains, ◌<◌, map, get_or, arith}
use Rattle.std.specs.List.{zip}
use Rattle.std.specs.Prelude.{slice_get, is_some, ◌||◌, length, option_and_then, option_map}
use Rattle.std.proofs.lemmas.Bool.{false≢true, false_from_ne_true}
use Rattle.std.proofs.lemmas.List.{length-map}
use Rattle.std.proofs.lemmas.Option.{slice_get-map, slice_get_read, slice_get_within}
use Rattle.tv_model.specs.Form.{Form, FAtom, vars_of}
use Rattle.tv_model.specs.Program.{ProgramForm, PredForm, KindForm, KDefined, ActionForm, RetainForm}
use Rattle.tv_model.specs.Program.{UpdateForm, CTo}
use Rattle.tv_model.specs.Valid.{IsValid}
use Rattle.tv_delta_laws.specs.Deltas.{Delta, is_flagged, delta_of, atom_delta, small_put}
use Rattle.tv_delta_laws.specs.Putting.{Reserved, own_variables, variables}
use Rattle.tv_delta_laws.specs.Simple.{is_small, simple_not, simple_cond}
use Rattle.tv_delta_laws.specs.Differences.{AreAffected, IsAffected, Answer, DKeep, DEvaluate, DTo}
use Rattle.tv_delta_laws.specs.Differences.{answer_for, answer_by_kind, updates_by, formed, or_evaluate}
use Rattle.tv_delta_laws.specs.Differences.{update_by}
use Rattle.tv_delta_laws.specs.Laws.{UpdatesTellTheTruth, KeptPredicatesStay}
use Rattle.tv_model.proofs.Lists.{slice_get-contains}
use Rattle.tv_delta.specs.declared.kinds.Difference.{Difference}
use Rattle.tv_delta.specs.declared.kinds.Difference.TheVariants.{Keep, Evaluate, To}
use Rattle.tv_delta.specs.Answers.{IsDefined, IsDefinedBy, IsDifference, SaysAnswer, KeepsWhere, TellsTruth}
use Rattle.tv_delta.specs.Answers.{TellsBy, update_list}

-- the answer's updates are those of what it says
pub says_updates : (q : ℕ) (x : Difference) (answer : Answer) → SaysAnswer q x answer → update_list x ≡ updates_by q answer
says_updates q Keep answer says = ap (updates_by q) (sym says)
says_updates q Evaluate answer says = ap (updates_by q) (sym says)
says_updates q (To w) answer says = ap (λ u. u ∷ []) says.3 ∙ ap (updates_by q) (sym says.2)

-- ---- an answer for a predicate and an action

abbrev pub HasAnswer : ProgramForm → ActionForm → (affected : List Bool) → (q : ℕ) → PredForm → Difference → Type 0
HasAnswer p action affected q d x = SaysAnswer q x (answer_by_kind p action affected q d.kind)

answered : (p : ProgramForm) (action : ActionForm) (affected : List Bool) (q : ℕ) (d : PredForm) (vars : List ℕ)
    (body : Form) (x : Difference) → d.kind ≡ KDefined vars body → HasAnswer p action affected q d x
    → SaysAnswer q x (answer_for p action affected q vars body)
answered p action affected q d vars body x kind says =
    let At : KindForm → Type 0 = λ k. SaysAnswer q x (answer_by_kind p action affected q k)
    in subst At kind says

pub is_difference : (p : ProgramForm) (k q : ℕ) (action : ActionForm) (affected : List Bool) (d : PredForm)
    (vars : List ℕ) (body : Form) (x : Difference) → slice_get p.actions k ≡ Some action
    → IsDefinedBy p q d vars body → AreAffected p action affected → HasAnswer p action affected q d x
    → IsDifference p k q x
is_difference p k q action affected d vars body x at its marked says = record {
  action = action;
  at = at;
  pred = d;
  vars = vars;
  body = body;
  its = its;
  affected = affected;
  marked = marked;
  says = answered p action affected q d vars body x its.defined says;
}

-- the answer for what stands at these places
pub differs : (p : ProgramForm) (k q : ℕ) (action : ActionForm) (affected flags : List Bool) (d : PredForm) (x : Difference)
    → slice_get p.actions k ≡ Some action → slice_get p.preds q ≡ Some d → IsDefined p q → flags ≡ affected
    → AreAffected p action affected → HasAnswer p action flags q d x → IsDifference p k q x
differs p k q action affected flags d x at found (e, vars, body, its) same marked says =
    let one : e ≡ d = cc (its.found, found)
    in let here : IsDefinedBy p q d vars body = subst (λ b. IsDefinedBy p q b vars body) one its
    in let marks : AreAffected p action flags = subst (λ fs. AreAffected p action fs) (sym same) marked
    in is_difference p k q action flags d vars body x at here marks says

-- what stands at a place of a list that is read
pub place : {A B : Type 0} (view : A → B) (xs : List A) (i : ℕ) (x : A) → i < length xs → x ≡ get_or xs i x
    → slice_get (map view xs) i ≡ Some (view x)
place view xs i x below is = slice_get-map view xs i ∙ ap (option_map view) (slice_get_read xs (length xs) i x refl below is)

-- a predicate of the vocabulary has its number below the number of all
pub in_vocabulary : {A : Type 0} (p : ProgramForm) (view : A → PredForm) (xs : List A) (q : ℕ) → p.preds ≡ map view xs
    → IsDefined p q → q < length xs
in_vocabulary p view xs q same (d, vars, body, its) =
    let within : q < length p.preds = slice_get_within p.preds q d its.found
    in omega (arith, within, ap length same, length-map xs view)

-- ---- where a predicate is kept

formed-not-kept : (p : ProgramForm) (action : ActionForm) (affected : List Bool) (q : ℕ) (vars : List ℕ) (body : Form)
    → formed p action affected q vars body ≢ DKeep
formed-not-kept p action affected q vars body e =
    go (own_variables action.picks (action.picks ++ (vars ++ variables body)) vars)
    (λ own. let r : Reserved = record { picks = action.picks; own = own }
    in option_and_then (delta_of (atom_delta (length p.preds) p action r affected) affected)
    (small_put r body (zip vars own))) e
  where
    by_size : (b : Bool) (own : List ℕ) (f : Form) → cond b (DTo own f) DEvaluate ≢ DKeep
    by_size true own f e = cc e
    by_size false own f e = cc e

    inner : (own : List ℕ) (o : Option Delta) → or_evaluate (option_and_then (λ d. Some (update_by q own d)) o) ≢ DKeep
    inner own None e = cc e
    inner own (Some d) e =
        by_size (is_small (simple_cond (FAtom q own) (simple_not d.down) d.up)) own
        (simple_cond (FAtom q own) (simple_not d.down) d.up) e

    go : (o : Option (List ℕ)) (f : List ℕ → Option Delta)
        → or_evaluate (option_and_then (λ own. option_and_then (λ d. Some (update_by q own d)) (f own)) o) ≢ DKeep
    go None f e = cc e
    go (Some own) f e = inner own (f own) e

kept-means : (fresh : Bool) (retain : Option RetainForm) (flag : Bool) (f : Answer) → f ≢ DKeep
    → cond (fresh || is_some retain) DEvaluate (cond flag f DKeep) ≡ DKeep
    → (flag ≡ false) × (fresh ≡ false) × (retain ≡ None)
kept-means true retain flag f other e = absurd (cc e)
kept-means false (Some r) flag f other e = absurd (cc e)
kept-means false None true f other e = absurd (other e)
kept-means false None false f other e = (refl, refl, refl)

keep-said : (q : ℕ) (x : Difference) → SaysAnswer q x DKeep → x ≡ Keep
keep-said q Keep says = refl
keep-said q Evaluate says = absurd (cc says)
keep-said q (To w) says = absurd (cc says.2)

pub keeps_where : (p : ProgramForm) (k q : ℕ) (x : Difference) → IsDifference p k q x → KeepsWhere p k q x
keeps_where p k q x is action at =
    let same : is.action ≡ action = cc (is.at, at)
    in let Kept : ActionForm → Type 0 = λ a. (x ≡ Keep) ↔ ((¬ IsAffected p a q) × (a.fresh ≡ false) × (a.retain ≡ None))
    in subst Kept same (there, back)
  where
    there : x ≡ Keep → (¬ IsAffected p is.action q) × (is.action.fresh ≡ false) × (is.action.retain ≡ None)
    there keep =
        let Its : Difference → Type 0 = λ y. SaysAnswer q y (answer_for p is.action is.affected q is.vars is.body)
        in let kept : (is_flagged is.affected q ≡ false) × (is.action.fresh ≡ false) × (is.action.retain ≡ None)
        = kept-means is.action.fresh is.action.retain (is_flagged is.affected q)
        (formed p is.action is.affected q is.vars is.body)
        (formed-not-kept p is.action is.affected q is.vars is.body) (subst Its keep is.says)
        in (
          λ a. false≢true (sym kept.0 ∙ (is.marked.tell q is.pred is.its.found).1 a),
          kept.1,
          kept.2,
        )

    back : (¬ IsAffected p is.action q) × (is.action.fresh ≡ false) × (is.action.retain ≡ None) → x ≡ Keep
    back none =
        let off : is_flagged is.affected q ≡ false
        = false_from_ne_true (is_flagged is.affected q) (λ on. none.0 ((is.marked.tell q is.pred is.its.found).0 on))
        in let answer : answer_for p is.action is.affected q is.vars is.body ≡ DKeep = rw (none.1, none.2, off) refl
        in let Its : Answer → Type 0 = λ y. SaysAnswer q x y
        in keep-said q x (subst Its answer is.says)

-- ---- what an answer tells

-- what differencing says of the predicate q, defined by the body over the variables
pub record IsSaid (p : ProgramForm) (action : ActionForm) (q : ℕ) (vars : List ℕ) (body : Form) (x : Difference) : Type 0 where
  pub affected : List Bool
  pub marked : AreAffected p action affected
  pub says : SaysAnswer q x (answer_for p action affected q vars body)

tells : UpdatesTellTheTruth → KeptPredicatesStay → (p : ProgramForm) (action : ActionForm) (q : ℕ) (d : PredForm)
    (vars : List ℕ) (body : Form) (x : Difference) → IsValid p → Contains p.actions action → IsDefinedBy p q d vars body
    → IsSaid p action q vars body x → TellsBy p action q d vars body x
tells tell stay p action q d vars body Keep valid among its said =
    λ picked old middle new tuple step concrete.
    stay p action said.affected q d vars body picked old middle new tuple valid among said.marked its.found its.defined
    said.says step concrete
tells tell stay p action q d vars body Evaluate valid among its said = tt
tells tell stay p action q d vars body (To w) valid among its said =
    λ f picked old middle new tuple change step concrete fits.
    let own : said.says.0 ≡ vars_of w.vars = sym (ap (λ (u : UpdateForm). u.vars) said.says.3)
    in let formula : CTo said.says.1 ≡ CTo f = sym (ap (λ (u : UpdateForm). u.change) said.says.3) ∙ change
    in let same : said.says.1 ≡ f = cc formula
    in let answer : answer_for p action said.affected q vars body ≡ DTo (vars_of w.vars) f
    = said.says.2 ∙ ap (λ vs. DTo vs said.says.1) own ∙ ap (λ g. DTo (vars_of w.vars) g) same
    in tell p action said.affected q d vars body (vars_of w.vars) f picked old middle new tuple valid among said.marked
    its.found its.defined answer step concrete fits

pub tells_truth : UpdatesTellTheTruth → KeptPredicatesStay → (p : ProgramForm) (k q : ℕ) (x : Difference) → IsValid p
    → IsDifference p k q x → TellsTruth p k q x
tells_truth tell stay p k q x valid is action d vars body at its =
    let same : is.action ≡ action = cc (is.at, at)
    in let pred : is.pred ≡ d = cc (is.its.found, its.found)
    in let kind : KDefined is.vars is.body ≡ KDefined vars body
    = sym is.its.defined ∙ ap (λ (e : PredForm). e.kind) pred ∙ its.defined
    in let names : is.vars ≡ vars = cc kind
    in let formula : is.body ≡ body = cc kind
    in let first : IsSaid p is.action q is.vars is.body x
    = record { affected = is.affected; marked = is.marked; says = is.says }
    in let second : IsSaid p action q is.vars is.body x = subst (λ a. IsSaid p a q is.vars is.body x) same first
    in let third : IsSaid p action q vars is.body x = subst (λ vs. IsSaid p action q vs is.body x) names second
    in let fourth : IsSaid p action q vars body x = subst (λ f. IsSaid p action q vars f x) formula third
    in tells tell stay p action q d vars body x valid (slice_get-contains p.actions k action at) its fourth
