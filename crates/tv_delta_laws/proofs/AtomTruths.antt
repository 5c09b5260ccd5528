-- The deltas of atoms tell the truth, and so does the update of a defined predicate.
use Rattle.std.proofs.Common.{ℕ, ◌≡◌, ◌↔◌, ◌∙◌, Bool, true, false, zero, suc, List, ◌++◌, length, map, Option}
use Rattle.std.proofs.Common.{Some, None, refl, sym, ap, subst, cond, Contains}
use Rattle.std.specs.Prelude.{◌||◌, IfSome, slice_get, option_and_then, option_map, is_some}
use Rattle.std.specs.List.{zip}
use Rattle.std.proofs.lemmas.Bool.{cond_both, or_parts, true≢false}
use Rattle.std.proofs.lemmas.List.Elements.{All-contains, Contains-append_left, Contains-append_right}
use Rattle.std.proofs.lemmas.Option.{slice_get-map}
use Rattle.tv_model.specs.Form.{Form, FAtom, IsFree}
use Rattle.tv_model.specs.Heap.{Heap, Holds, IsTuple}
use Rattle.tv_model.specs.Program.{ProgramForm, PredForm, KindForm, KCore, KDefined, ActionForm, UpdateForm}
use Rattle.tv_model.specs.Program.{ChangeForm, CFree, CTo, RetainForm}
use Rattle.tv_model.specs.Rules.{IsConcrete, blank}
use Rattle.tv_model.specs.Step.{StepsThrough, IsMiddle, update_for}
use Rattle.tv_model.specs.Truth.{Assignment, Truth, put_all}
use Rattle.tv_model.specs.Valid.{IsValid, IsVariable, IsFormulaOver, IsPred, IsKind, IsAction}
use Rattle.tv_model.specs.Valid.{program_arities}
use Rattle.tv_model.proofs.Decided.{IsDecided}
use Rattle.tv_model.proofs.Lists.{slice_get-contains, Contains-map}
use Rattle.tv_delta_laws.specs.Simple.{is_small, simple_not, simple_cond}
use Rattle.tv_delta_laws.specs.Putting.{Reserved, argument_for, variables, own_variables}
use Rattle.tv_delta_laws.specs.Deltas.{Delta, delta_by, unchanged, is_flagged, delta_of, delta_of_defined}
use Rattle.tv_delta_laws.specs.Deltas.{delta_by_change, delta_by_update, delta_by_kind, atom_delta, small_put}
use Rattle.tv_delta_laws.specs.Differences.{AreAffected, Answer, DKeep, DEvaluate, DTo, update_by}
use Rattle.tv_delta_laws.specs.Differences.{or_evaluate, formed, answer_for}
use Rattle.tv_delta_laws.specs.Laws.{UpdatesTellTheTruth, KeptPredicatesStay}
use Rattle.tv_delta_laws.proofs.Options.{if-bound, if-then}
use Rattle.tv_delta_laws.proofs.Assigned.{put-all_arguments, put-all_outside, put-all_reads, argument-in}
use Rattle.tv_delta_laws.proofs.OwnVariables.{Owns, own-fit}
use Rattle.tv_delta_laws.proofs.PutTruths.{AvoidsPicks, Keeps, small-put_keeps}
use Rattle.tv_delta_laws.proofs.DeltaTruths.{Change, Suits, IsDelta, TellsAt, delta-tells, unchanged-tells}
use Rattle.tv_delta_laws.proofs.FormulaTruths.{TellsAtoms, delta-of_tells}
use Rattle.tv_delta_laws.proofs.StepTruths.{StillStep, same-individuals, tuple-old, by-definition}
use Rattle.tv_delta_laws.proofs.StepTruths.{unflagged-stays, untouched-alike, change_by, still-change}
use Rattle.tv_delta_laws.proofs.StepTruths.{arguments-fit, arity-of_atom, set-tells}
use Rattle.tv_lemmas.proofs.Options.{IfSome-any}

-- the definition of a predicate of a valid program
pub its-kind : (p : ProgramForm) → IsValid p → (q : ℕ) (d : PredForm) (vars : List ℕ) (body : Form)
    → slice_get p.preds q ≡ Some d → d.kind ≡ KDefined vars body → IsKind p d.arity (KDefined vars body)
its-kind p valid q d vars body found defined =
    let At : KindForm → Type 0 = λ k. IsKind p d.arity k
    in subst At defined (All-contains (IsPred p) p.preds d valid.preds (slice_get-contains p.preds q d found)).kind

-- an atom whose definition, with the arguments put in, has the delta e
pub opened-tells : (p : ProgramForm) (action : ActionForm) (picked : Assignment) (old new : Heap)
    → StillStep p action picked old new → (q : ℕ) (d : PredForm) (vars : List ℕ) (body : Form) (args : List ℕ)
    → slice_get p.preds q ≡ Some d → d.kind ≡ KDefined vars body → IsFormulaOver (program_arities p) (FAtom q args)
    → (r : Reserved) (g : Form) → Keeps r body (zip vars args) g → (e : Delta)
    → IsDelta (change_by action picked old new) g e
    → IsDelta (change_by action picked old new) (FAtom q args) (delta_by (FAtom q args) e.up e.down)
opened-tells p action picked old new is q d vars body args found defined fits r g k e tells =
    delta-tells s (still-change p action picked old new is) atom atom e.up e.down (λ b suits.
    let was : Truth old b atom ↔ Truth old b g = at_old b suits
    in let will : Truth new b atom ↔ Truth new b g = at_new b suits
    in let t : TellsAt s g e b = tells.at b (inner_suits b suits)
    in (
      (λ x. x, λ x. x),
      (λ x. ((λ o. (t.up.0 x).0 (was.0 o)), will.1 (t.up.0 x).1), λ x. t.up.1 ((λ o. x.0 (was.1 o)), will.0 x.1)),
      (λ x. (was.1 (t.down.0 x).0, λ n. (t.down.0 x).1 (will.0 n)), λ x. t.down.1 (was.0 x.0, λ n. x.1 (will.1 n))),
    ))
  where
    s : Change
    s = change_by action picked old new

    atom : Form
    atom = FAtom q args

    kind : IsKind p d.arity (KDefined vars body)
    kind = its-kind p is.valid q d vars body found defined

    as_many : length vars ≡ length args
    as_many = kind.0.0 ∙ sym (arity-of_atom p q d args found fits)

    agrees : (b : Assignment) (x : ℕ) → IsFree x body
        → put_all blank vars (map b args) x ≡ b (argument_for (zip vars args) x)
    agrees b x free =
        put-all_arguments blank b vars args x as_many kind.0.2 (λ no. absurd (no (kind.2 x free)))

    at_old : (b : Assignment) → Suits s atom b → Truth old b atom ↔ Truth old b g
    at_old b suits =
        let holds : Holds old q (map b args) ↔ Truth old (put_all blank vars (map b args)) body
        = by-definition p old is.concrete q d vars body found defined (map b args)
        (tuple-old p action picked old new is d.arity (map b args)
        (arguments-fit p action picked old new is q d args found fits b suits))
        in let keeps : Truth old b g ↔ Truth old (put_all blank vars (map b args)) body
        = k.truth old b (put_all blank vars (map b args)) (agrees b)
        in (λ t. keeps.1 (holds.0 t), λ t. holds.1 (keeps.0 t))

    at_new : (b : Assignment) → Suits s atom b → Truth new b atom ↔ Truth new b g
    at_new b suits =
        let holds : Holds new q (map b args) ↔ Truth new (put_all blank vars (map b args)) body
        = by-definition p new is.step.concrete q d vars body found defined (map b args)
        (arguments-fit p action picked old new is q d args found fits b suits)
        in let keeps : Truth new b g ↔ Truth new (put_all blank vars (map b args)) body
        = k.truth new b (put_all blank vars (map b args)) (agrees b)
        in (λ t. keeps.1 (holds.0 t), λ t. holds.1 (keeps.0 t))

    inner_suits : (b : Assignment) → Suits s atom b → Suits s g b
    inner_suits b suits = record {
      picks = suits.picks;
      individuals = λ x free.
          let back : (w : ℕ) × IsFree w body × (argument_for (zip vars args) w ≡ x) = k.free x free
          in let At : ℕ → Type 0 = λ y. Contains args y
          in suits.individuals x (subst At back.2 (argument-in vars args back.0 as_many (kind.2 back.0 back.1)));
    }

-- the formula with the arguments put in is one over the vocabulary
pub opened-fits : (p : ProgramForm) → IsValid p → (q : ℕ) (d : PredForm) (vars : List ℕ) (body : Form) (args : List ℕ)
    → slice_get p.preds q ≡ Some d → d.kind ≡ KDefined vars body → IsFormulaOver (program_arities p) (FAtom q args)
    → (r : Reserved) (g : Form) → Keeps r body (zip vars args) g → IsFormulaOver (program_arities p) g
opened-fits p valid q d vars body args found defined fits r g k =
    let kind : IsKind p d.arity (KDefined vars body) = its-kind p valid q d vars body found defined
    in let as_many : length vars ≡ length args = kind.0.0 ∙ sym (arity-of_atom p q d args found fits)
    in k.fits (program_arities p) kind.1.0
    (λ w free. All-contains IsVariable args (argument_for (zip vars args) w) fits.1
    (argument-in vars args w as_many (kind.2 w free)))

-- the delta of the definition, opened over deltas of atoms that tell the truth
pub definition-tells : (p : ProgramForm) (action : ActionForm) (picked : Assignment) (old new : Heap)
    (affected : List Bool) → StillStep p action picked old new → (q : ℕ) (d : PredForm) (vars : List ℕ) (body : Form)
    (args : List ℕ)
    → slice_get p.preds q ≡ Some d → d.kind ≡ KDefined vars body → IsFormulaOver (program_arities p) (FAtom q args)
    → (r : Reserved) → r.picks ≡ action.picks → (atoms : ℕ → List ℕ → Option Delta)
    → TellsAtoms (change_by action picked old new) (program_arities p) affected atoms
    → IfSome (option_and_then (delta_of atoms affected) (small_put r body (zip vars args)))
    (λ e. IsDelta (change_by action picked old new) (FAtom q args) (delta_by (FAtom q args) e.up e.down))
definition-tells p action picked old new affected is q d vars body args found defined fits r same_picks atoms tells =
    let s : Change = change_by action picked old new
    in let P : Delta → Type 0 = λ e. IsDelta s (FAtom q args) (delta_by (FAtom q args) e.up e.down)
    in if-bound (Keeps r body (zip vars args)) P (delta_of atoms affected) (small_put r body (zip vars args))
    (small-put_keeps r body (zip vars args))
    (λ g k. let Avoids : List ℕ → Type 0 = λ picks. AvoidsPicks picks g
    in if-then (IsDelta s g) P (delta_of atoms affected g)
    (delta-of_tells s (program_arities p) affected atoms tells g
    (opened-fits p is.valid q d vars body args found defined fits r g k) (subst Avoids same_picks k.avoids))
    (λ e at. opened-tells p action picked old new is q d vars body args found defined fits r g k e at))

-- ---- atoms

by-kind_tells : (p : ProgramForm) (action : ActionForm) (picked : Assignment) (old new : Heap)
    (affected : List Bool) → StillStep p action picked old new → (r : Reserved) → r.picks ≡ action.picks
    → (inner : ℕ → List ℕ → Option Delta)
    → TellsAtoms (change_by action picked old new) (program_arities p) affected inner
    → (q : ℕ) (args : List ℕ) → IsFormulaOver (program_arities p) (FAtom q args) → (d : PredForm)
    → slice_get p.preds q ≡ Some d → (kind : KindForm) → d.kind ≡ kind
    → IfSome (delta_by_kind r affected action inner q args kind) (IsDelta (change_by action picked old new) (FAtom q args))
by-kind_tells p action picked old new affected is r same_picks inner tells q args fits d found KCore kind =
    go (update_for q action.updates) refl
  where
    changed : (w : UpdateForm) → update_for q action.updates ≡ Some w → (c : ChangeForm) → w.change ≡ c
        → IfSome (delta_by_change r (FAtom q args) w.vars args c) (IsDelta (change_by action picked old new) (FAtom q args))
    changed w updated CFree sets = tt
    changed w updated (CTo f) sets =
        set-tells p action picked old new is r same_picks q d args found kind fits w updated f sets

    go : (o : Option UpdateForm) → update_for q action.updates ≡ o
        → IfSome (delta_by_update r (FAtom q args) args o) (IsDelta (change_by action picked old new) (FAtom q args))
    go None e = tt
    go (Some w) e = changed w e w.change refl
by-kind_tells p action picked old new affected is r same_picks inner tells q args fits d found (KDefined vars body) kind =
    let s : Change = change_by action picked old new
    in let P : Delta → Type 0 = λ e. IsDelta s (FAtom q args) (delta_by (FAtom q args) e.up e.down)
    in if-bound P (IsDelta s (FAtom q args)) (delta_of_defined (FAtom q args))
    (option_and_then (delta_of inner affected) (small_put r body (zip vars args)))
    (definition-tells p action picked old new affected is q d vars body args found kind fits r same_picks inner tells)
    (λ e at. at)

pub atoms-tell : (p : ProgramForm) (action : ActionForm) (picked : Assignment) (old new : Heap)
    (affected : List Bool) → StillStep p action picked old new → AreAffected p action affected
    → (r : Reserved) → r.picks ≡ action.picks → (n : ℕ)
    → TellsAtoms (change_by action picked old new) (program_arities p) affected (atom_delta n p action r affected)
atoms-tell p action picked old new affected is marked r same_picks zero = record {
  change = still-change p action picked old new is;
  each_atom = λ q args fits. tt;
  untouched = untouched-alike p action picked old new affected is marked;
}
atoms-tell p action picked old new affected is marked r same_picks (suc n) =
    let inner : TellsAtoms (change_by action picked old new) (program_arities p) affected (atom_delta n p action r affected)
    = atoms-tell p action picked old new affected is marked r same_picks n
    in record {
      change = still-change p action picked old new is;
      each_atom = λ q args fits. atom q args fits inner;
      untouched = untouched-alike p action picked old new affected is marked;
    }
  where
    found_or_not : (q : ℕ) (args : List ℕ) → IsFormulaOver (program_arities p) (FAtom q args)
        → TellsAtoms (change_by action picked old new) (program_arities p) affected (atom_delta n p action r affected)
        → (o : Option PredForm) → slice_get p.preds q ≡ o
        → IfSome (option_and_then (λ d. delta_by_kind r affected action (atom_delta n p action r affected) q args d.kind) o)
        (IsDelta (change_by action picked old new) (FAtom q args))
    found_or_not q args fits inner None e = tt
    found_or_not q args fits inner (Some d) e =
        by-kind_tells p action picked old new affected is r same_picks (atom_delta n p action r affected) inner q args
        fits d e d.kind refl

    atom : (q : ℕ) (args : List ℕ) → IsFormulaOver (program_arities p) (FAtom q args)
        → TellsAtoms (change_by action picked old new) (program_arities p) affected (atom_delta n p action r affected)
        → IfSome (atom_delta (suc n) p action r affected q args) (IsDelta (change_by action picked old new) (FAtom q args))
    atom q args fits inner =
        cond_both (is_flagged affected q)
        (option_and_then (λ d. delta_by_kind r affected action (atom_delta n p action r affected) q args d.kind)
        (slice_get p.preds q))
        (unchanged (FAtom q args)) (λ o. IfSome o (IsDelta (change_by action picked old new) (FAtom q args)))
        (λ e. found_or_not q args fits inner (slice_get p.preds q) refl)
        (λ e. unchanged-tells (change_by action picked old new) (still-change p action picked old new is) (FAtom q args)
        (λ b suits. unflagged-stays p action picked old new affected is marked q e (map b args)))

-- ---- updates

-- an answer that is an update tells, of the tuple, what the definition is in the new heap
abbrev pub AnswerTells : (picked : Assignment) (old new : Heap) → (tuple vars : List ℕ) (body : Form) → Answer → Type 0
AnswerTells picked old new tuple vars body DKeep = Unit {0}
AnswerTells picked old new tuple vars body DEvaluate = Unit {0}
AnswerTells picked old new tuple vars body (DTo own f) =
    Truth old (put_all picked own tuple) f ↔ Truth new (put_all blank vars tuple) body

or-evaluate_tells : (picked : Assignment) (old new : Heap) (tuple vars : List ℕ) (body : Form) (o : Option Answer)
    → IfSome o (AnswerTells picked old new tuple vars body) → AnswerTells picked old new tuple vars body (or_evaluate o)
or-evaluate_tells picked old new tuple vars body None is = tt
or-evaluate_tells picked old new tuple vars body (Some x) is = is

-- the update by the delta of an atom over own variables
own-tells : (p : ProgramForm) (action : ActionForm) (picked : Assignment) (old new : Heap)
    → StillStep p action picked old new → (q : ℕ) (d : PredForm) (vars : List ℕ) (body : Form)
    → slice_get p.preds q ≡ Some d → d.kind ≡ KDefined vars body → (tuple : List ℕ) → IsTuple new d.arity tuple
    → (used own : List ℕ) → Owns action.picks used vars own → (e : Delta)
    → IsDelta (change_by action picked old new) (FAtom q own) (delta_by (FAtom q own) e.up e.down)
    → AnswerTells picked old new tuple vars body (update_by q own e)
own-tells p action picked old new is q d vars body found defined tuple fits used own owns e tells =
    let f : Form = simple_cond (FAtom q own) (simple_not e.down) e.up
    in cond_both (is_small f) (DTo own f) DEvaluate (AnswerTells picked old new tuple vars body)
    (λ small. says) (λ large. tt)
  where
    b : Assignment
    b = put_all picked own tuple

    as_many : length own ≡ length tuple
    as_many = owns.as_many ∙ (its-kind p is.valid q d vars body found defined).0.0 ∙ sym fits.0

    reads : map b own ≡ tuple
    reads = put-all_reads picked own tuple as_many owns.differ

    suits : Suits (change_by action picked old new) (FAtom q own) b
    suits = record {
      picks = λ v at. put-all_outside picked own tuple v (λ owned. owns.apart v owned at);
      individuals = λ v at.
          let among : Contains (map b own) (b v) = Contains-map b v own at
          in let At : List ℕ → Type 0 = λ us. Contains us (b v)
          in (same-individuals p action picked old new is (b v)).1
          (All-contains (Contains new.individuals) tuple (b v) fits.1 (subst At reads among));
    }

    says : Truth old b (simple_cond (FAtom q own) (simple_not e.down) e.up) ↔ Truth new (put_all blank vars tuple) body
    says =
        let t : TellsAt (change_by action picked old new) (FAtom q own) (delta_by (FAtom q own) e.up e.down) b
        = tells.at b suits
        in let At : List ℕ → Type 0 = λ us. Holds new q us ↔ Truth new (put_all blank vars tuple) body
        in let holds : Holds new q (map b own) ↔ Truth new (put_all blank vars tuple) body
        = subst At (sym reads)
        (by-definition p new is.step.concrete q d vars body found defined tuple fits)
        in (λ x. holds.0 (t.next.0 x), λ x. t.next.1 (holds.1 x))

-- own variables are numbers of variables, and as many as the predicate has arguments
pub own-fits : (p : ProgramForm) → IsValid p → (q : ℕ) (d : PredForm) (vars : List ℕ) (body : Form)
    → slice_get p.preds q ≡ Some d → d.kind ≡ KDefined vars body → (picks used own : List ℕ) → Owns picks used vars own
    → IsFormulaOver (program_arities p) (FAtom q own)
own-fits p valid q d vars body found defined picks used own owns =
    let kind : IsKind p d.arity (KDefined vars body) = its-kind p valid q d vars body found defined
    in (
      slice_get-map (λ d. d.arity) p.preds q ∙ ap (option_map (λ d. d.arity)) found
          ∙ ap (λ n. Some n) (sym (owns.as_many ∙ kind.0.0)),
      owns.variables kind.0.1,
    )

pub formed-tells : (p : ProgramForm) (action : ActionForm) (picked : Assignment) (old new : Heap)
    (affected : List Bool) → StillStep p action picked old new → AreAffected p action affected
    → (q : ℕ) (d : PredForm) (vars : List ℕ) (body : Form)
    → slice_get p.preds q ≡ Some d → d.kind ≡ KDefined vars body → (tuple : List ℕ) → IsTuple new d.arity tuple
    → AnswerTells picked old new tuple vars body (formed p action affected q vars body)
formed-tells p action picked old new affected is marked q d vars body found defined tuple fits =
    let Q : Answer → Type 0 = AnswerTells picked old new tuple vars body
    in let used : List ℕ = action.picks ++ (vars ++ variables body)
    in let inner : List ℕ → Option Answer = λ own.
    let r : Reserved = record { picks = action.picks; own = own }
    in option_and_then (λ e. Some (update_by q own e))
    (option_and_then (delta_of (atom_delta (length p.preds) p action r affected) affected)
    (small_put r body (zip vars own)))
    in or-evaluate_tells picked old new tuple vars body (option_and_then inner (own_variables action.picks used vars))
    (if-bound (Owns action.picks used vars) Q inner (own_variables action.picks used vars)
    (own-fit action.picks used vars
    (λ x at. Contains-append_right action.picks (vars ++ variables body) x (Contains-append_left vars (variables body) x at))
    (λ x at. Contains-append_left action.picks (vars ++ variables body) x at)
    (its-kind p is.valid q d vars body found defined).0.2)
    (λ own owns. by_own own used owns))
  where
    by_own : (own used : List ℕ) → Owns action.picks used vars own
        → IfSome (option_and_then (λ e. Some (update_by q own e))
        (option_and_then (delta_of (atom_delta (length p.preds) p action (record { picks = action.picks; own = own }) affected)
        affected) (small_put (record { picks = action.picks; own = own }) body (zip vars own))))
        (AnswerTells picked old new tuple vars body)
    by_own own used owns =
        let r : Reserved = record { picks = action.picks; own = own }
        in let atoms : ℕ → List ℕ → Option Delta = atom_delta (length p.preds) p action r affected
        in let P : Delta → Type 0
        = λ e. IsDelta (change_by action picked old new) (FAtom q own) (delta_by (FAtom q own) e.up e.down)
        in if-bound P (AnswerTells picked old new tuple vars body) (λ e. Some (update_by q own e))
        (option_and_then (delta_of atoms affected) (small_put r body (zip vars own)))
        (definition-tells p action picked old new affected is q d vars body own found defined
        (own-fits p is.valid q d vars body found defined action.picks used own owns) r refl atoms
        (atoms-tell p action picked old new affected is marked r refl (length p.preds)))
        (λ e at. own-tells p action picked old new is q d vars body found defined tuple fits used own owns e at)

-- ---- the laws

abbrev pub Decided : Type 0
Decided = (h : Heap) (a : Assignment) (f : Form) → IsDecided (Truth h a f)

-- an answer other than to evaluate comes only where individuals stay
pub still-cases : (p : ProgramForm) (action : ActionForm) (affected : List Bool) (q : ℕ) (vars : List ℕ) (body : Form)
    → (Q : Answer → Type 0) → Q DEvaluate
    → (action.fresh ≡ false → action.retain ≡ None → is_flagged affected q ≡ true → Q (formed p action affected q vars body))
    → (action.fresh ≡ false → action.retain ≡ None → is_flagged affected q ≡ false → Q DKeep)
    → Q (answer_for p action affected q vars body)
still-cases p action affected q vars body Q evaluates forms keeps =
    cond_both (action.fresh || is_some action.retain) DEvaluate
    (cond (is_flagged affected q) (formed p action affected q vars body) DKeep) Q
    (λ e. evaluates)
    (λ e. let none : action.retain ≡ None = without (or_parts action.fresh (is_some action.retain) e).1
    in let old : action.fresh ≡ false = (or_parts action.fresh (is_some action.retain) e).0
    in cond_both (is_flagged affected q) (formed p action affected q vars body) DKeep Q
    (λ flagged. forms old none flagged) (λ unflagged. keeps old none unflagged))
  where
    without : is_some action.retain ≡ false → action.retain ≡ None
    without e = go action.retain e
      where
        go : (o : Option RetainForm) → is_some o ≡ false → o ≡ None
        go None same = refl
        go (Some r) same = absurd (true≢false same)

-- a step of such an action is one that leaves the individuals
pub still-step : Decided → (p : ProgramForm) (action : ActionForm) (picked : Assignment) (old middle new : Heap)
    → IsValid p → IsAction p action → action.fresh ≡ false → action.retain ≡ None
    → StepsThrough p action picked old middle new → IsConcrete p old
    → (middle ≡ old) × StillStep p action picked old new
still-step decided p action picked old middle new valid its_action stays none step concrete =
    let Middle : Bool → Type 0 = λ b. IsMiddle b old middle
    in let same : middle ≡ old = subst Middle stays step.is_middle
    in let At : Heap → Type 0 = λ h. StepsThrough p action picked old h new
    in (
      same,
      record {
        decided = decided;
        valid = valid;
        its_action = its_action;
        stays = none;
        step = subst At same step;
        concrete = concrete;
      },
    )

pub updates_tell_the_truth : Decided → UpdatesTellTheTruth
updates_tell_the_truth decided p action affected q d vars body own f picked old middle new tuple valid among marked found
    defined answers step concrete fits =
    let its_action : IsAction p action = All-contains (IsAction p) p.actions action valid.actions among
    in let Q : Answer → Type 0 = λ x. AnswerTells picked middle new tuple vars body x
    in subst Q answers
    (still-cases p action affected q vars body Q tt
    (λ stays none flagged. by_still
    (still-step decided p action picked old middle new valid its_action stays none step concrete))
    (λ stays none unflagged. tt))
  where
    by_still : (middle ≡ old) × StillStep p action picked old new
        → AnswerTells picked middle new tuple vars body (formed p action affected q vars body)
    by_still t =
        let At : Heap → Type 0 = λ h. AnswerTells picked h new tuple vars body (formed p action affected q vars body)
        in subst At (sym t.0)
        (formed-tells p action picked old new affected t.1 marked q d vars body found defined tuple fits)

pub or-evaluate_by : (Q : Answer → Type 0) → Q DEvaluate → (o : Option Answer) → IfSome o Q → Q (or_evaluate o)
or-evaluate_by Q evaluates None is = evaluates
or-evaluate_by Q evaluates (Some x) is = is

-- what is formed is an update, or there is none
pub formed-by : (Q : Answer → Type 0) → Q DEvaluate → ((own : List ℕ) (f : Form) → Q (DTo own f))
    → (p : ProgramForm) (action : ActionForm) (affected : List Bool) (q : ℕ) (vars : List ℕ) (body : Form)
    → Q (formed p action affected q vars body)
formed-by Q evaluates updates p action affected q vars body =
    let used : List ℕ = action.picks ++ (vars ++ variables body)
    in let opened : List ℕ → Option Delta = λ own.
    let r : Reserved = record { picks = action.picks; own = own }
    in option_and_then (delta_of (atom_delta (length p.preds) p action r affected) affected) (small_put r body (zip vars own))
    in let inner : List ℕ → Option Answer = λ own. option_and_then (λ e. Some (update_by q own e)) (opened own)
    in or-evaluate_by Q evaluates (option_and_then inner (own_variables action.picks used vars))
    (if-bound (λ own. Unit {0}) Q inner (own_variables action.picks used vars)
    (IfSome-any (own_variables action.picks used vars))
    (λ own t. if-bound (λ e. Unit {0}) Q (λ e. Some (update_by q own e)) (opened own) (IfSome-any (opened own))
    (λ e u. cond_both (is_small (simple_cond (FAtom q own) (simple_not e.down) e.up))
    (DTo own (simple_cond (FAtom q own) (simple_not e.down) e.up)) DEvaluate Q
    (λ small. updates own (simple_cond (FAtom q own) (simple_not e.down) e.up)) (λ large. evaluates))))

abbrev pub KeepTells : (old new : Heap) (q : ℕ) (tuple : List ℕ) → Answer → Type 0
KeepTells old new q tuple DKeep = Holds old q tuple ↔ Holds new q tuple
KeepTells old new q tuple DEvaluate = Unit {0}
KeepTells old new q tuple (DTo own f) = Unit {0}

pub kept_predicates_stay : Decided → KeptPredicatesStay
kept_predicates_stay decided p action affected q d vars body picked old middle new tuple valid among marked found defined
    answers step concrete =
    let its_action : IsAction p action = All-contains (IsAction p) p.actions action valid.actions among
    in let Q : Answer → Type 0 = λ x. KeepTells old new q tuple x
    in subst Q answers
    (still-cases p action affected q vars body Q tt
    (λ stays none flagged. formed-by Q tt (λ own f. tt) p action affected q vars body)
    (λ stays none unflagged. unflagged-stays p action picked old new affected
    (still-step decided p action picked old middle new valid its_action stays none step concrete).1 marked q unflagged tuple))
