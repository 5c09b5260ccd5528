-- A step that neither adds nor removes individuals: what it doesn't affect stays, and the deltas of atoms tell
-- what it does.
use Rattle.std.proofs.Common.{ℕ, ◌≡◌, ◌<◌, ◌↔◌, ◌∙◌, Bool, true, false, zero, suc, List, [], ◌∷◌, length, map}
use Rattle.std.proofs.Common.{Option, Some, None, inl, inr, ⊎_elim, refl, sym, ap, subst, eqb, arith}
use Rattle.std.proofs.Common.{Contains}
use Rattle.std.specs.Prelude.{◌||◌, IfSome, slice_get, option_and_then, option_map}
use Rattle.std.specs.List.{zip}
use Rattle.std.proofs.lemmas.Bool.{both_ways, or_parts, eqb-true}
use Rattle.std.proofs.lemmas.List.Elements.{All-contains, Contains-append_cases}
use Rattle.std.proofs.lemmas.List.{length-map}
use Rattle.std.proofs.lemmas.Option.{slice_get-map}
use Rattle.tv_model.specs.Form.{Form, FZero, FOne, FAtom, FIsNew, FSame, FNot, FAnd, FOr, FIff, FCond}
use Rattle.tv_model.specs.Form.{FExists, FForall, FClosure, IsFree, Mentions}
use Rattle.tv_model.specs.Heap.{Heap, Holds, IsTuple}
use Rattle.tv_model.specs.Laws.{HeapsLookAlike}
use Rattle.tv_model.specs.Program.{ProgramForm, PredForm, KindForm, KCore, KDefined, ActionForm, UpdateForm}
use Rattle.tv_model.specs.Program.{ChangeForm, CTo, RetainForm}
use Rattle.tv_model.specs.Rules.{IsConcrete, MeetsDefinition, blank}
use Rattle.tv_model.specs.Step.{StepsThrough, Keeps as KeepsIndividual, FollowsUpdate, AllowsChange}
use Rattle.tv_model.specs.Step.{update_for}
use Rattle.tv_model.specs.Truth.{Assignment, Truth, put_all}
use Rattle.tv_model.specs.Valid.{IsValid, IsFormulaOver, IsAction, IsUpdate, IsChange as IsAllowedChange}
use Rattle.tv_model.specs.Valid.{program_arities}
use Rattle.tv_model.proofs.Assignments.{All-values}
use Rattle.tv_model.proofs.Decided.{IsDecided}
use Rattle.tv_model.proofs.Lists.{All-from_contains}
use Rattle.tv_model.proofs.Programs.{pred-cases, kind-cases, holds-nothing, holds-fits}
use Rattle.tv_model.proofs.Truths.{Truth-local}
use Rattle.tv_delta_laws.specs.Simple.{simple_not, simple_and}
use Rattle.tv_delta_laws.specs.Putting.{Reserved, argument_for}
use Rattle.tv_delta_laws.specs.Deltas.{small_put, delta_by, is_flagged, touches, delta_of_set}
use Rattle.tv_delta_laws.specs.Differences.{DefinedBy, IsAffected, AreAffected}
use Rattle.tv_delta_laws.proofs.Options.{if-bound, find-passes}
use Rattle.tv_delta_laws.proofs.Assigned.{put-all_arguments}
use Rattle.tv_delta_laws.proofs.PutTruths.{Keeps, small-put_keeps}
use Rattle.tv_delta_laws.proofs.SimpleLaws.{not-truth, and-truth}
use Rattle.tv_delta_laws.proofs.DeltaTruths.{Change, IsChange, Suits, IsDelta, delta-tells, if-small}

-- such a step of a valid program from a concrete heap
pub record StillStep (p : ProgramForm) (action : ActionForm) (picked : Assignment) (old new : Heap) : Type 0 where
  pub decided : (h : Heap) (a : Assignment) (f : Form) → IsDecided (Truth h a f)
  pub valid : IsValid p
  pub its_action : IsAction p action
  pub stays : action.retain ≡ None
  pub step : StepsThrough p action picked old old new
  pub concrete : IsConcrete p old

pub same-individuals : (p : ProgramForm) (action : ActionForm) (picked : Assignment) (old new : Heap)
    → StillStep p action picked old new → (u : ℕ) → Contains old.individuals u ↔ Contains new.individuals u
same-individuals p action picked old new is u = (
  λ at. (is.step.keeps u).1
      (at, let At : Option RetainForm → Type 0 = λ r. KeepsIndividual old picked r u in subst At (sym is.stays) tt),
  λ at. ((is.step.keeps u).0 at).0,
)

same-marks : (p : ProgramForm) (action : ActionForm) (picked : Assignment) (old new : Heap)
    → StillStep p action picked old new → old.fresh ≡ new.fresh
same-marks p action picked old new is = is.step.old_heap.no_mark ∙ sym is.step.new_heap.no_mark

pub tuple-new : (p : ProgramForm) (action : ActionForm) (picked : Assignment) (old new : Heap)
    → StillStep p action picked old new → (n : ℕ) (tuple : List ℕ) → IsTuple old n tuple → IsTuple new n tuple
tuple-new p action picked old new is n tuple fits = (
  fits.0,
  All-from_contains (Contains new.individuals) tuple
      (λ u at. (same-individuals p action picked old new is u).0
      (All-contains (Contains old.individuals) tuple u fits.1 at)),
)

pub tuple-old : (p : ProgramForm) (action : ActionForm) (picked : Assignment) (old new : Heap)
    → StillStep p action picked old new → (n : ℕ) (tuple : List ℕ) → IsTuple new n tuple → IsTuple old n tuple
tuple-old p action picked old new is n tuple fits = (
  fits.0,
  All-from_contains (Contains old.individuals) tuple
      (λ u at. (same-individuals p action picked old new is u).1
      (All-contains (Contains new.individuals) tuple u fits.1 at)),
)

-- what a defined predicate holds of, by its definition
pub by-definition : (p : ProgramForm) (h : Heap) → IsConcrete p h → (q : ℕ) (d : PredForm) (vars : List ℕ) (body : Form)
    → slice_get p.preds q ≡ Some d → d.kind ≡ KDefined vars body → (tuple : List ℕ) → IsTuple h d.arity tuple
    → Holds h q tuple ↔ Truth h (put_all blank vars tuple) body
by-definition p h concrete q d vars body found defined tuple fits =
    let At : KindForm → Type 0 = λ k. MeetsDefinition h q k tuple
    in subst At defined (concrete q d found tuple fits)

-- ---- what isn't affected

pub rests-affected : (p : ProgramForm) (action : ActionForm) (q r : ℕ) → DefinedBy p q r → IsAffected p action r
    → IsAffected p action q
rests-affected p action q r by (inl changed) = inr (r, [], changed, by)
rests-affected p action q r by (inr t) = inr (t.0, r ∷ t.1, t.2, (by, t.3))

-- a predicate holds alike if it does of tuples of individuals
alike-if_fits : (p : ProgramForm) (action : ActionForm) (picked : Assignment) (old new : Heap)
    → StillStep p action picked old new → (q : ℕ) (d : PredForm) → slice_get p.preds q ≡ Some d → (tuple : List ℕ)
    → (IsTuple new d.arity tuple → Holds old q tuple ↔ Holds new q tuple) → Holds old q tuple ↔ Holds new q tuple
alike-if_fits p action picked old new is q d found tuple alike = (
  λ at. (alike (tuple-new p action picked old new is d.arity tuple
      (holds-fits p old is.step.old_heap q d found tuple at))).0 at,
  λ at. (alike (holds-fits p new is.step.new_heap q d found tuple at)).1 at,
)

core-stays : (p : ProgramForm) (action : ActionForm) (picked : Assignment) (old new : Heap)
    → StillStep p action picked old new → (q : ℕ) (d : PredForm) → slice_get p.preds q ≡ Some d → d.kind ≡ KCore
    → (¬ IsAffected p action q) → (tuple : List ℕ) → IsTuple new d.arity tuple → Holds old q tuple ↔ Holds new q tuple
core-stays p action picked old new is q d found core unaffected tuple fits =
    go (update_for q action.updates) refl (is.step.core q d found core tuple fits)
  where
    go : (o : Option UpdateForm) → update_for q action.updates ≡ o → FollowsUpdate q old picked o tuple new
        → Holds old q tuple ↔ Holds new q tuple
    go None e follows = (λ t. follows.1 t, λ t. follows.0 t)
    go (Some w) e follows =
        absurd (unaffected (inl (record { pred = d; found = found; core = core; update = w; updated = e })))

stays-below : (p : ProgramForm) (action : ActionForm) (picked : Assignment) (old new : Heap)
    → (is : StillStep p action picked old new) → (n q : ℕ) → is.valid.rank q < n → (¬ IsAffected p action q)
    → (tuple : List ℕ) → Holds old q tuple ↔ Holds new q tuple
stays-below p action picked old new is zero q below unaffected tuple = absurd (omega (arith, below))
stays-below p action picked old new is (suc n) q below unaffected tuple =
    ⊎_elim
    (λ t. alike-if_fits p action picked old new is q t.0 t.1 tuple (λ fits. fitting t.0 t.1 fits
    (λ r under calm us. stays-below p action picked old new is n r under calm us)))
    (λ none. (
      λ at. absurd (holds-nothing p old is.step.old_heap q tuple none at),
      λ at. absurd (holds-nothing p new is.step.new_heap q tuple none at),
    ))
    (pred-cases p q)
  where
    defined : (d : PredForm) (vars : List ℕ) (body : Form) → slice_get p.preds q ≡ Some d → d.kind ≡ KDefined vars body
        → IsTuple new d.arity tuple
        → ((r : ℕ) → is.valid.rank r < n → (¬ IsAffected p action r) → (us : List ℕ) → Holds old r us ↔ Holds new r us)
        → Holds old q tuple ↔ Holds new q tuple
    defined d vars body found by fits later =
        let a : Assignment = put_all blank vars tuple
        in let was : Holds old q tuple ↔ Truth old a body
        = by-definition p old is.concrete q d vars body found by tuple
        (tuple-old p action picked old new is d.arity tuple fits)
        in let will : Holds new q tuple ↔ Truth new a body
        = by-definition p new is.step.concrete q d vars body found by tuple fits
        in let alike : HeapsLookAlike body old new
        = record {
          individuals = same-individuals p action picked old new is;
          holds = λ r mentioned us.
              let falls : is.valid.rank r < is.valid.rank q = is.valid.no_cycle.falls q d found vars body by r mentioned
              in later r (omega (arith, falls, below))
              (λ affected. unaffected (rests-affected p action q r
              (record { pred = d; vars = vars; body = body; found = found; defined = by; mentions = mentioned })
              affected)) us;
          marks = λ named. same-marks p action picked old new is;
        }
        in let same : Truth old a body ↔ Truth new a body = Truth-local body old new a a alike (λ v free. refl)
        in (λ t. will.1 (same.0 (was.0 t)), λ t. was.1 (same.1 (will.0 t)))

    fitting : (d : PredForm) → slice_get p.preds q ≡ Some d → IsTuple new d.arity tuple
        → ((r : ℕ) → is.valid.rank r < n → (¬ IsAffected p action r) → (us : List ℕ) → Holds old r us ↔ Holds new r us)
        → Holds old q tuple ↔ Holds new q tuple
    fitting d found fits later =
        ⊎_elim
        (λ core. core-stays p action picked old new is q d found core unaffected tuple fits)
        (λ t. defined d t.0 t.1 found t.2 fits later)
        (kind-cases d.kind)

-- what the action doesn't affect holds of the same tuples before and after the step
pub unaffected-stays : (p : ProgramForm) (action : ActionForm) (picked : Assignment) (old new : Heap)
    → StillStep p action picked old new → (q : ℕ) → (¬ IsAffected p action q)
    → (tuple : List ℕ) → Holds old q tuple ↔ Holds new q tuple
unaffected-stays p action picked old new is q unaffected tuple =
    stays-below p action picked old new is (suc (is.valid.rank q)) q (omega arith) unaffected tuple

pub unflagged-stays : (p : ProgramForm) (action : ActionForm) (picked : Assignment) (old new : Heap)
    (affected : List Bool) → StillStep p action picked old new → AreAffected p action affected → (q : ℕ)
    → is_flagged affected q ≡ false → (tuple : List ℕ) → Holds old q tuple ↔ Holds new q tuple
unflagged-stays p action picked old new affected is marked q unflagged tuple =
    ⊎_elim
    (λ t. unaffected-stays p action picked old new is q
    (λ a. both_ways (is_flagged affected q) unflagged ((marked.tell q t.0 t.1).1 a)) tuple)
    (λ none. (
      λ at. absurd (holds-nothing p old is.step.old_heap q tuple none at),
      λ at. absurd (holds-nothing p new is.step.new_heap q tuple none at),
    ))
    (pred-cases p q)

untouched-unflagged : (flags : List Bool) (q : ℕ) (f : Form) → touches flags f ≡ false → Mentions q f
    → is_flagged flags q ≡ false
untouched-unflagged flags q FZero e m = absurd m
untouched-unflagged flags q FOne e m = absurd m
untouched-unflagged flags q (FAtom r vars) e m = ap (is_flagged flags) m ∙ e
untouched-unflagged flags q (FIsNew v) e m = absurd m
untouched-unflagged flags q (FSame v w) e m = absurd m
untouched-unflagged flags q (FNot f) e m = untouched-unflagged flags q f e m
untouched-unflagged flags q (FAnd f g) e m =
    ⊎_elim (untouched-unflagged flags q f (or_parts (touches flags f) (touches flags g) e).0)
    (untouched-unflagged flags q g (or_parts (touches flags f) (touches flags g) e).1) m
untouched-unflagged flags q (FOr f g) e m =
    ⊎_elim (untouched-unflagged flags q f (or_parts (touches flags f) (touches flags g) e).0)
    (untouched-unflagged flags q g (or_parts (touches flags f) (touches flags g) e).1) m
untouched-unflagged flags q (FIff f g) e m =
    ⊎_elim (untouched-unflagged flags q f (or_parts (touches flags f) (touches flags g) e).0)
    (untouched-unflagged flags q g (or_parts (touches flags f) (touches flags g) e).1) m
untouched-unflagged flags q (FCond c f g) e m =
    let rest : (touches flags f || touches flags g) ≡ false
    = (or_parts (touches flags c) (touches flags f || touches flags g) e).1
    in ⊎_elim
    (untouched-unflagged flags q c (or_parts (touches flags c) (touches flags f || touches flags g) e).0)
    (λ t. ⊎_elim (untouched-unflagged flags q f (or_parts (touches flags f) (touches flags g) rest).0)
    (untouched-unflagged flags q g (or_parts (touches flags f) (touches flags g) rest).1) t) m
untouched-unflagged flags q (FExists v f) e m = untouched-unflagged flags q f e m
untouched-unflagged flags q (FForall v f) e m = untouched-unflagged flags q f e m
untouched-unflagged flags q (FClosure from to left right f) e m = untouched-unflagged flags q f e m

-- a formula without affected atoms is true alike before and after the step
pub untouched-alike : (p : ProgramForm) (action : ActionForm) (picked : Assignment) (old new : Heap)
    (affected : List Bool) → StillStep p action picked old new → AreAffected p action affected → (f : Form)
    → touches affected f ≡ false → (b : Assignment) → Truth old b f ↔ Truth new b f
untouched-alike p action picked old new affected is marked f e b =
    Truth-local f old new b b
    (record {
      individuals = same-individuals p action picked old new is;
      holds = λ q mentioned tuple. unflagged-stays p action picked old new affected is marked q
          (untouched-unflagged affected q f e mentioned) tuple;
      marks = λ named. same-marks p action picked old new is;
    })
    (λ v free. refl)

-- ---- atoms

abbrev pub change_by : ActionForm → Assignment → (old new : Heap) → Change
change_by action picked old new = record { old = old; new = new; picks = action.picks; picked = picked }

pub still-change : (p : ProgramForm) (action : ActionForm) (picked : Assignment) (old new : Heap)
    → StillStep p action picked old new → IsChange (change_by action picked old new)
still-change p action picked old new is = record {
  decided = is.decided;
  individuals = same-individuals p action picked old new is;
  marks = same-marks p action picked old new is;
}

-- the arguments of an atom stand for a tuple of individuals
pub arguments-fit : (p : ProgramForm) (action : ActionForm) (picked : Assignment) (old new : Heap)
    → StillStep p action picked old new → (q : ℕ) (d : PredForm) (args : List ℕ) → slice_get p.preds q ≡ Some d
    → IsFormulaOver (program_arities p) (FAtom q args) → (b : Assignment)
    → Suits (change_by action picked old new) (FAtom q args) b → IsTuple new d.arity (map b args)
arguments-fit p action picked old new is q d args found fits b suits = (
  length-of_map ∙ as_many,
  All-values (Contains new.individuals) b args
      (λ v at. (same-individuals p action picked old new is (b v)).0 (suits.individuals v at)),
)
  where
    as_many : length args ≡ d.arity
    as_many =
        let its : Some (length args) ≡ Some d.arity
        = sym fits.0 ∙ slice_get-map (λ d. d.arity) p.preds q ∙ ap (option_map (λ d. d.arity)) found
        in cc its

    length-of_map : length (map b args) ≡ length args
    length-of_map = length-map args b

-- as many arguments as the predicate has
pub arity-of_atom : (p : ProgramForm) (q : ℕ) (d : PredForm) (args : List ℕ) → slice_get p.preds q ≡ Some d
    → IsFormulaOver (program_arities p) (FAtom q args) → length args ≡ d.arity
arity-of_atom p q d args found fits =
    let its : Some (length args) ≡ Some d.arity
    = sym fits.0 ∙ slice_get-map (λ d. d.arity) p.preds q ∙ ap (option_map (λ d. d.arity)) found
    in cc its

-- an update of the action
pub its-update : (p : ProgramForm) (action : ActionForm) → IsAction p action → (q : ℕ) (w : UpdateForm)
    → update_for q action.updates ≡ Some w → IsUpdate p action w × (w.pred ≡ q)
its-update p action is q w e =
    let found : (eqb w.pred q ≡ true) × Contains action.updates w
    = find-passes (λ w. eqb w.pred q) action.updates w e
    in (All-contains (IsUpdate p action) action.updates w is.updates found.1, eqb-true w.pred q found.0)

pub set-tells : (p : ProgramForm) (action : ActionForm) (picked : Assignment) (old new : Heap)
    → StillStep p action picked old new → (r : Reserved) → r.picks ≡ action.picks → (q : ℕ) (d : PredForm) (args : List ℕ)
    → slice_get p.preds q ≡ Some d → d.kind ≡ KCore → IsFormulaOver (program_arities p) (FAtom q args)
    → (w : UpdateForm) → update_for q action.updates ≡ Some w → (f : Form) → w.change ≡ CTo f
    → IfSome (option_and_then (delta_of_set (FAtom q args)) (small_put r f (zip w.vars args)))
    (IsDelta (change_by action picked old new) (FAtom q args))
set-tells p action picked old new is r same_picks q d args found core fits w updated f sets =
    let s : Change = change_by action picked old new
    in let atom : Form = FAtom q args
    in if-bound (Keeps r f (zip w.vars args)) (IsDelta s atom) (delta_of_set atom) (small_put r f (zip w.vars args))
    (small-put_keeps r f (zip w.vars args))
    (λ g k. if-small (IsDelta s atom) (delta_by atom (simple_and g (simple_not atom)) (simple_and atom (simple_not g)))
    (delta-tells s (still-change p action picked old new is) atom atom (simple_and g (simple_not atom))
    (simple_and atom (simple_not g)) (λ b suits.
    let here : Truth old b g ↔ Truth new b atom = becomes g k b suits
    in let up = and-truth old b g (simple_not atom)
    in let down = and-truth old b atom (simple_not g)
    in let no_atom = not-truth old b atom
    in let no_g = not-truth old b g
    in (
      (λ t. t, λ t. t),
      (λ t. (no_atom.0 (up.0 t).1, here.0 (up.0 t).0), λ t. up.1 (here.1 t.1, no_atom.1 t.0)),
      (λ t. ((down.0 t).0, λ n. no_g.0 (down.0 t).1 (here.1 n)), λ t. down.1 (t.0, no_g.1 (λ n. t.1 (here.0 n)))),
    ))))
  where
    becomes : (g : Form) → Keeps r f (zip w.vars args) g → (b : Assignment)
        → Suits (change_by action picked old new) (FAtom q args) b → Truth old b g ↔ Truth new b (FAtom q args)
    becomes g k b suits =
        let tuple : List ℕ = map b args
        in let fitting : IsTuple new d.arity tuple = arguments-fit p action picked old new is q d args found fits b suits
        in let its : IsUpdate p action w × (w.pred ≡ q) = its-update p action is.its_action q w updated
        in let At : Option UpdateForm → Type 0 = λ o. FollowsUpdate q old picked o tuple new
        in let follows : AllowsChange old picked w.vars w.change tuple (Holds new q tuple)
        = subst At updated (is.step.core q d found core tuple fitting)
        in let Of : ChangeForm → Type 0 = λ c. AllowsChange old picked w.vars c tuple (Holds new q tuple)
        in let says : Holds new q tuple ↔ Truth old (put_all picked w.vars tuple) f = subst Of sets follows
        in let Over : ChangeForm → Type 0 = λ c. IsAllowedChange p action its.0.0 w.vars c
        in let over : IsAllowedChange p action its.0.0 w.vars (CTo f) = subst Over sets its.0.3
        in let AtPred : ℕ → Type 0 = λ n. slice_get p.preds n ≡ Some its.0.0
        in let same_pred : its.0.0 ≡ d = cc (subst AtPred its.1 its.0.1, found)
        in let as_many : length w.vars ≡ length args
        = its.0.2.0 ∙ ap (λ (x : PredForm). x.arity) same_pred ∙ sym (arity-of_atom p q d args found fits)
        in let agrees : (x : ℕ) → IsFree x f → put_all picked w.vars tuple x ≡ b (argument_for (zip w.vars args) x)
        = λ x free. put-all_arguments picked b w.vars args x as_many its.0.2.2
        (λ no. sym (suits.picks x (⊎_elim (λ at. absurd (no at)) (λ at. at)
        (Contains-append_cases w.vars action.picks x (over.1 x free)))))
        in let keeps : Truth old b g ↔ Truth old (put_all picked w.vars tuple) f
        = k.truth old b (put_all picked w.vars tuple) agrees
        in (λ t. says.1 (keeps.0 t), λ t. keeps.1 (says.0 t))
