-- A step through a middle heap that embeds in a middle structure: the choice, and the updates.
use Rattle.std.specs.List.{list_any}
use Rattle.std.proofs.Common.{ℕ, ◌≡◌, ◌≢◌, ◌⊎◌, ◌↔◌, Bool, true, false, List, length, map, Option, None, Some}
use Rattle.std.proofs.Common.{slice_get, inl, inr, ⊎_elim, refl, sym, ap, subst, ◌∙◌, All, Contains, IsTrue}
use Rattle.std.proofs.Common.{eqb, eq-eqb, ne_eqb}
use Rattle.std.proofs.lemmas.Bool.{cases_eq, cond-true, cond-false, false≢true, false_from_ne_true}
use Rattle.std.proofs.lemmas.List.Elements.{Contains-append_cases}
use Rattle.std.proofs.lemmas.List.{length-map}
use Rattle.tv_kleene.specs.declared.K3.{K3}
use Rattle.tv_kleene.specs.declared.K3.TheVariants.{No, Half, Yes}
use Rattle.tv_kleene.specs.Kleene.{LiesUnder}
use Rattle.tv_model.specs.declared.program.Mode.{Mode}
use Rattle.tv_model.specs.declared.program.Mode.TheVariants.{Given, Recompute}
use Rattle.tv_model.specs.Form.{Form}
use Rattle.tv_model.specs.Heap.{Heap, Holds, IsTuple}
use Rattle.tv_model.specs.Program.{ProgramForm, PredForm, KindForm, KCore, KDefined, ActionForm, RetainForm}
use Rattle.tv_model.specs.Program.{UpdateForm, ChangeForm, CFree, CTo}
use Rattle.tv_model.specs.Rules.{IsHeap, IsConcrete}
use Rattle.tv_model.specs.Step.{Keeps, update_for, AllowsChange, FollowsUpdate, AgreesWithGiven}
use Rattle.tv_model.specs.Truth.{Assignment, Truth, put, put_all}
use Rattle.tv_model.specs.Valid.{IsAction, IsRetain, IsChange, IsFormulaWithNew}
use Rattle.tv_model.proofs.Programs.{holds-fits}
use Rattle.tv_model.proofs.Lists.{Contains-cases, Contains-map, Contains-map_back}
use Rattle.tv_model.proofs.Decided.{Contains-decided}
use Rattle.tv_embedding_laws.specs.LogicalStructure.{LogicalStructure, ReadsHeap, heap_structure}
use Rattle.tv_embedding_laws.specs.Embedding.{Embeds, KeepsMark}
use Rattle.tv_embedding_laws.proofs.EmbeddingLaws.{reads_heap}
use Rattle.tv_eval_laws.specs.Value.{value}
use Rattle.tv_eval_laws.specs.Laws.{TakesAlong, EmbedsFor, TellsOfHeap}
use Rattle.tv_eval_laws.proofs.Embedded.{GoesTo, embedding_theorem, embeds-for}
use Rattle.tv_eval_laws.proofs.InHeaps.{tells-truth, definite_values_are_sound, tells-atom}
use Rattle.tv_update_laws.specs.Applied.{keep_value, MayChoose, IsChoice, changed_value, updated_value}
use Rattle.tv_update_laws.specs.Applied.{used_update, MovesIndividuals}
use Rattle.tv_update_laws.proofs.Facts.{told-same, any-found, any-none}
use Rattle.tv_update_laws.proofs.Updates.{used-core, UpdateOf, update-of}
use Rattle.tv_update_laws.proofs.Puts.{put-goes, put_all-goes}

-- the middle heap of a step is one of the program, and concrete
pub record IsStill (p : ProgramForm) (middle : Heap) : Type 0 where
  pub is_heap : IsHeap p middle
  pub concrete : IsConcrete p middle

-- a step goes through a middle heap that embeds in the structure `above`
pub record Passing : Type 0 where
  pub p : ProgramForm
  pub mode : Mode
  pub action : ActionForm
  pub picked : Assignment
  pub picks : Assignment
  pub g : ℕ → ℕ
  pub middle : Heap
  pub new : Heap
  pub above : LogicalStructure
  pub valid : IsAction p action
  pub embeds : Embeds g (heap_structure middle) above
  pub marks : IsTrue action.fresh → KeepsMark g (heap_structure middle) above
  pub takes : (v : ℕ) → Contains action.picks v → GoesTo g (heap_structure middle) (picked v) (picks v)
  pub keeps : (u : ℕ) → Contains new.individuals u
      ↔ (Contains middle.individuals u × Keeps middle picked action.retain u)
  pub core : (q : ℕ) (d : PredForm) → slice_get p.preds q ≡ Some d → d.kind ≡ KCore
      → (tuple : List ℕ) → IsTuple new d.arity tuple
      → FollowsUpdate q middle picked (update_for q action.updates) tuple new
  pub given : AgreesWithGiven p mode action picked middle new
  pub new_heap : IsHeap p new
  pub concrete : IsConcrete p new
  pub fits : (q : ℕ) (d : PredForm) → slice_get p.preds q ≡ Some d → (tuple : List ℕ) → Holds middle q tuple
      → length tuple ≡ d.arity
  pub nothing : (q : ℕ) → slice_get p.preds q ≡ None → (tuple : List ℕ) → ¬ Holds middle q tuple
  pub still : (¬ MovesIndividuals action) → IsStill p middle

abbrev pub before : Passing → LogicalStructure
before c = heap_structure c.middle

abbrev pub after : Passing → LogicalStructure
after c = heap_structure c.new

-- a formula of the action lies in the middle heap under its value above
pub formula-for : (c : Passing) (f : Form) → IsFormulaWithNew c.p c.action.fresh f
    → EmbedsFor f c.g (before c) c.above
formula-for c f is = embeds-for f c.g (before c) c.above c.embeds (λ n. c.marks (is.1 n))

-- ---- the choice

-- an individual above is kept where an individual of the new heap goes to it
abbrev pub kept_above : Passing → ℕ → Bool
kept_above c w = list_any (λ v. eqb v w) (map c.g c.new.individuals)

pub kept-image : (c : Passing) (u : ℕ) → Contains c.new.individuals u → IsTrue (kept_above c (c.g u))
kept-image c u at = any-found (c.g u) (map c.g c.new.individuals) (Contains-map c.g u c.new.individuals at)

pub kept-preimage : (c : Passing) (w : ℕ) → IsTrue (kept_above c w)
    → (u : ℕ) × Contains c.new.individuals u × (c.g u ≡ w)
kept-preimage c w kept =
    ⊎_elim
    (λ at. Contains-map_back c.g c.new.individuals w at)
    (λ none. absurd (false≢true (sym (any-none w (map c.g c.new.individuals) none) ∙ kept)))
    (Contains-decided (map c.g c.new.individuals) w)

may-choose : (x : K3) (b : Bool) → (x ≡ Yes → b ≡ true) → (x ≡ No → b ≡ false) → MayChoose x b
may-choose No b at_yes at_no = at_no refl
may-choose Half b at_yes at_no = tt
may-choose Yes b at_yes at_no = at_yes refl

choice-at : (c : Passing) (retain : Option RetainForm) → c.action.retain ≡ retain → (w : ℕ)
    → Contains c.above.individuals w → MayChoose (keep_value c.above c.picks retain w) (kept_above c w)
choice-at c None e w at =
    let d : (u : ℕ) × Contains c.middle.individuals u × (c.g u ≡ w) = c.embeds.onto w at
    in let keep : Keeps c.middle c.picked c.action.retain d.0 =
    subst (λ o. Keeps c.middle c.picked o d.0) (sym e) tt
    in subst (λ y. IsTrue (kept_above c y)) d.2 (kept-image c d.0 ((c.keeps d.0).1 (d.1, keep)))
choice-at c (Some r) e w at =
    may-choose (value c.above (put c.picks r.var w) r.keep) (kept_above c w) at_yes at_no
  where
    is : IsRetain c.p c.action (Some r)
    is = subst (λ o. IsRetain c.p c.action o) e c.valid.retain

    takes : (u : ℕ) → Contains c.middle.individuals u → c.g u ≡ w
        → TakesAlong c.g (before c) r.keep (put c.picked r.var u) (put c.picks r.var w)
    takes u inside goes v free =
        put-goes (GoesTo c.g (before c)) (Contains c.action.picks) c.picked c.picks r.var u w
        (inside, goes) c.takes
        v (Contains-cases r.var v c.action.picks (is.1 v free))

    tells : (u : ℕ) → Contains c.middle.individuals u → c.g u ≡ w
        → TellsOfHeap c.middle (put c.picked r.var u) r.keep (value c.above (put c.picks r.var w) r.keep)
    tells u inside goes =
        definite_values_are_sound r.keep c.g c.middle c.above (put c.picked r.var u) (put c.picks r.var w)
        (formula-for c r.keep is.0) (takes u inside goes)

    at_yes : value c.above (put c.picks r.var w) r.keep ≡ Yes → kept_above c w ≡ true
    at_yes x =
        let d : (u : ℕ) × Contains c.middle.individuals u × (c.g u ≡ w) = c.embeds.onto w at
        in let keep : Keeps c.middle c.picked c.action.retain d.0
        = subst (λ o. Keeps c.middle c.picked o d.0) (sym e) ((tells d.0 d.1 d.2).yes x)
        in subst (λ y. IsTrue (kept_above c y)) d.2 (kept-image c d.0 ((c.keeps d.0).1 (d.1, keep)))

    at_no : value c.above (put c.picks r.var w) r.keep ≡ No → kept_above c w ≡ false
    at_no x = false_from_ne_true (kept_above c w) (λ kept.
        let d : (u : ℕ) × Contains c.new.individuals u × (c.g u ≡ w) = kept-preimage c w kept
        in let both : Contains c.middle.individuals d.0 × Keeps c.middle c.picked c.action.retain d.0 =
        (c.keeps d.0).0 d.1
        in (tells d.0 both.0 d.2).no x (subst (λ o. Keeps c.middle c.picked o d.0) e both.1))

pub choice : (c : Passing) → IsChoice c.above c.picks c.action.retain (kept_above c)
choice c w at = choice-at c c.action.retain refl w at

-- ---- values that stay

pub new-inside : (c : Passing) (tuple : List ℕ) → All (Contains c.new.individuals) tuple
    → All (Contains c.middle.individuals) tuple
new-inside c tuple all = λ k d lt. ((c.keeps _).0 (all k d lt)).0

pub kept-lies : (c : Passing) (q : ℕ) (tuple : List ℕ) → All (Contains c.new.individuals) tuple
    → Holds c.new q tuple ↔ Holds c.middle q tuple
    → LiesUnder ((after c).value q tuple) (c.above.value q (map c.g tuple))
kept-lies c q tuple all alike =
    let same : (after c).value q tuple ≡ (before c).value q tuple
    = told-same ((after c).value q tuple) ((before c).value q tuple) (Holds c.new q tuple)
    (Holds c.middle q tuple)
    (tells-atom c.new q tuple) (tells-atom c.middle q tuple) alike
    in let Under : K3 → Type 0 = λ x. LiesUnder x (c.above.value q (map c.g tuple))
    in subst Under (sym same) (c.embeds.values q tt tuple (new-inside c tuple all))

-- ---- updates

change-lies : (c : Passing) (d : PredForm) (vars : List ℕ) (change : ChangeForm)
    → IsChange c.p c.action d vars change
    → (q : ℕ) (tuple : List ℕ) → All (Contains c.new.individuals) tuple → length tuple ≡ length vars
    → AllowsChange c.middle c.picked vars change tuple (Holds c.new q tuple)
    → LiesUnder ((after c).value q tuple) (changed_value c.above c.picks vars change (map c.g tuple))
change-lies c d vars CFree is q tuple all fits allows = inr refl
change-lies c d vars (CTo f) is q tuple all fits allows =
    let takes : TakesAlong c.g (before c) f (put_all c.picked vars tuple)
    (put_all c.picks vars (map c.g tuple))
    = λ v free. put_all-goes (GoesTo c.g (before c)) c.g vars tuple fits
    (λ k x lt. (new-inside c tuple all k x lt, refl))
    (Contains c.action.picks) c.picked c.picks c.takes v
    (Contains-append_cases vars c.action.picks v (is.1 v free))
    in let same : (after c).value q tuple ≡ value (before c) (put_all c.picked vars tuple) f
    = told-same ((after c).value q tuple) (value (before c) (put_all c.picked vars tuple) f)
    (Holds c.new q tuple)
    (Truth c.middle (put_all c.picked vars tuple) f)
    (tells-atom c.new q tuple)
    (tells-truth c.middle (put_all c.picked vars tuple) f (λ v free. (takes v free).0)) allows
    in let Under : K3 → Type 0 = λ x. LiesUnder x (value c.above (put_all c.picks vars (map c.g tuple)) f)
    in subst Under (sym same)
    (embedding_theorem f c.g (before c) c.above (put_all c.picked vars tuple)
    (put_all c.picks vars (map c.g tuple)) (formula-for c f is.0) takes)

-- a predicate of the program has No at a tuple of another length
pub misfit-no : (c : Passing) (q : ℕ) (d : PredForm) → slice_get c.p.preds q ≡ Some d → (tuple : List ℕ)
    → length tuple ≢ d.arity → (after c).value q tuple ≡ No
misfit-no c q d found tuple misfit =
    let reads : ReadsHeap c.new = reads_heap c.new
    in (reads.no q tuple).1 (λ h. misfit (holds-fits c.p c.new c.new_heap q d found tuple h).0)

given-allows : (c : Passing) (mode : Mode) → AgreesWithGiven c.p mode c.action c.picked c.middle c.new
    → (q : ℕ) (d : PredForm) → slice_get c.p.preds q ≡ Some d → (vars : List ℕ) (body : Form)
    → d.kind ≡ KDefined vars body
    → (w : UpdateForm) → used_update mode (KDefined vars body) (update_for q c.action.updates) ≡ Some w
    → (update_for q c.action.updates ≡ Some w)
    × ((tuple : List ℕ) → IsTuple c.new d.arity tuple
    → AllowsChange c.middle c.picked w.vars w.change tuple (Holds c.new q tuple))
given-allows c Given agrees q d found vars body kind w e = (
  e,
  λ tuple fits. agrees q d found (λ core. let clash : KDefined vars body ≡ KCore = sym kind
      ∙ core in absurd (cc)) w e tuple fits,
)
given-allows c Recompute agrees q d found vars body kind w e = absurd (cc e)

-- an update that counts allows what the new heap says
used-allows : (c : Passing) (q : ℕ) (d : PredForm) → slice_get c.p.preds q ≡ Some d → (kind : KindForm)
    → d.kind ≡ kind → (w : UpdateForm) → used_update c.mode kind (update_for q c.action.updates) ≡ Some w
    → (update_for q c.action.updates ≡ Some w)
    × ((tuple : List ℕ) → IsTuple c.new d.arity tuple
    → AllowsChange c.middle c.picked w.vars w.change tuple (Holds c.new q tuple))
used-allows c q d found KCore core w e =
    let is : update_for q c.action.updates ≡ Some w = sym (used-core c.mode (update_for q c.action.updates))
    ∙ e
    in (
      is,
      λ tuple fits. subst (λ o. FollowsUpdate q c.middle c.picked o tuple c.new) is
          (c.core q d found core tuple fits),
    )
used-allows c q d found (KDefined vars body) kind w e =
    given-allows c c.mode c.given q d found vars body kind w e

-- what an update that counts gives lies above the new heap
pub updated-lies : (c : Passing) (q : ℕ) (d : PredForm) → slice_get c.p.preds q ≡ Some d → (kind : KindForm)
    → d.kind ≡ kind → (w : UpdateForm) → used_update c.mode kind (update_for q c.action.updates) ≡ Some w
    → (tuple : List ℕ) → All (Contains c.new.individuals) tuple
    → LiesUnder ((after c).value q tuple) (updated_value c.above c.picks w (map c.g tuple))
updated-lies c q d found kind is w e tuple all =
    by_length (used-allows c q d found kind is w e) (cases_eq (length (map c.g tuple)) (length w.vars))
  where
    Above : K3 → Type 0
    Above y = LiesUnder ((after c).value q tuple) y

    by_length : (update_for q c.action.updates ≡ Some w)
        × ((us : List ℕ) → IsTuple c.new d.arity us
        → AllowsChange c.middle c.picked w.vars w.change us (Holds c.new q us))
        → (length (map c.g tuple) ≡ length w.vars) ⊎ (length (map c.g tuple) ≢ length w.vars)
        → LiesUnder ((after c).value q tuple) (updated_value c.above c.picks w (map c.g tuple))
    by_length allows fit =
        let facts : UpdateOf c.p c.action q w = update-of c.p c.action c.valid q w allows.0
        in let one : Some facts.pred ≡ Some d = sym facts.found ∙ found
        in let same : facts.pred ≡ d = cc
        in let arity : length w.vars ≡ d.arity = facts.vars.0 ∙ ap (λ (x : PredForm). x.arity) same
        in ⊎_elim
        (λ fits. subst Above (sym (cond-true (eqb (length (map c.g tuple)) (length w.vars))
        (changed_value c.above c.picks w.vars w.change (map c.g tuple)) No (eq-eqb _ _ fits)))
        (change-lies c facts.pred w.vars w.change facts.change q tuple all (sym (length-map tuple c.g) ∙ fits)
        (allows.1 tuple (sym (length-map tuple c.g) ∙ fits ∙ arity, all))))
        (λ misfit. inl (misfit-no c q d found tuple (λ f. misfit (length-map tuple c.g ∙ f ∙ sym arity))
        ∙ sym (cond-false (eqb (length (map c.g tuple)) (length w.vars))
        (changed_value c.above c.picks w.vars w.change (map c.g tuple)) No (ne_eqb _ _ misfit))))
        fit
