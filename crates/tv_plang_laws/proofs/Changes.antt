-- Steps of the compiled program by actions that keep all individuals and update core predicates alone.
use Rattle.std.proofs.Common.{ℕ, ◌≡◌, ◌≢◌, ◌≤◌, ◌+◌, ◌↔◌, ◌∙◌, List, [], ◌∷◌, length, Bool, Option, Some}
use Rattle.std.proofs.Common.{None, eqb, Contains, sym, subst, arith, eq-eqb, ne_eqb}
use Rattle.std.specs.Prelude.{IfSome}
use Rattle.std.proofs.lemmas.Bool.{cond-true, cond-false}
use Rattle.std.proofs.lemmas.List.Elements.{All-nil, All-head, All-tail}
use Rattle.tv_model.specs.Form.{Form}
use Rattle.tv_model.specs.Heap.{Heap, Holds, IsTuple}
use Rattle.tv_model.specs.Program.{PredForm, KCore, KDefined, UpdateForm, MessageForm, ActionForm}
use Rattle.tv_model.specs.Rules.{blank}
use Rattle.tv_model.specs.Step.{AgreesWithGiven, FairlySteps, FollowsUpdate, IsMiddle, update_for}
use Rattle.tv_model.specs.Truth.{Truth}
use Rattle.tv_model.specs.declared.program.Mode.{Mode}
use Rattle.tv_model.specs.declared.program.Mode.TheVariants.{Given, Recompute}
use Rattle.tv_source.specs.Forms.{SourceForm}
use Rattle.tv_source.specs.Valid.{IsVariableOf, IsFieldOf}
use Rattle.tv_plang_laws.specs.Compiled.{compiled, field_number}
use Rattle.tv_plang_laws.specs.Heaps.{IsHeapOfMemory}
use Rattle.tv_plang_laws.specs.Memories.{Memory}
use Rattle.tv_plang_laws.proofs.Predicates.{PredAt, of_variable, of_field, of_reach, pred-at}
use Rattle.tv_plang_laws.proofs.Truths.{meets}

-- an action that keeps all individuals
abbrev pub keeping : Option Form → List Form → List MessageForm → (fresh : Bool) → List UpdateForm → ActionForm
keeping pre focus messages fresh updates =
    record { pre = pre; picks = []; focus = focus; messages = messages; fresh = fresh; retain = None; updates = updates }

-- ---- one update

-- what follows from the update of q, if there is one in the list
abbrev pub Follows : (updates : List UpdateForm) → (middle new : Heap) → (q : ℕ) → (tuple : List ℕ) → Type 0
Follows updates middle new q tuple = FollowsUpdate q middle blank (update_for q updates) tuple new

pub updated : (w : UpdateForm) (middle new : Heap) (q : ℕ) (tuple : List ℕ) → w.pred ≡ q → FollowsUpdate q middle blank (Some w) tuple new
    → Follows (w ∷ []) middle new q tuple
updated w middle new q tuple e follows =
    let Of : Option UpdateForm → Type 0 = λ o. FollowsUpdate q middle blank o tuple new
    in subst Of (sym (cond-true (eqb w.pred q) (Some w) None (eq-eqb w.pred q e))) follows

pub not-updated : (w : UpdateForm) (middle new : Heap) (q : ℕ) (tuple : List ℕ) → w.pred ≢ q
    → Holds new q tuple ↔ Holds middle q tuple → Follows (w ∷ []) middle new q tuple
not-updated w middle new q tuple ne follows =
    let Of : Option UpdateForm → Type 0 = λ o. FollowsUpdate q middle blank o tuple new
    in subst Of (sym (cond-false (eqb w.pred q) (Some w) None (ne_eqb w.pred q ne))) follows

pub no-update : (w : UpdateForm) (q : ℕ) → w.pred ≢ q → update_for q (w ∷ []) ≡ None
no-update w q ne = cond-false (eqb w.pred q) (Some w) None (ne_eqb w.pred q ne)

-- ---- tuples

tuple-of_one : (P : List ℕ → Type 0) (h : Heap) (tuple : List ℕ) → IsTuple h 1 tuple → ((c : ℕ) → Contains h.individuals c → P (c ∷ [])) → P tuple
tuple-of_one P h [] is each = absurd (omega (arith, is.0))
tuple-of_one P h (c ∷ []) is each = each c (All-head (Contains h.individuals) c [] is.1)
tuple-of_one P h (c ∷ d ∷ more) is each = absurd (omega (arith, is.0))

tuple-of_two : (P : List ℕ → Type 0) (h : Heap) (tuple : List ℕ) → IsTuple h 2 tuple
    → ((c d : ℕ) → Contains h.individuals c → Contains h.individuals d → P (c ∷ d ∷ [])) → P tuple
tuple-of_two P h [] is each = absurd (omega (arith, is.0))
tuple-of_two P h (c ∷ []) is each = absurd (omega (arith, is.0))
tuple-of_two P h (c ∷ d ∷ []) is each =
    each c d (All-head (Contains h.individuals) c (d ∷ []) is.1)
    (All-head (Contains h.individuals) d [] (All-tail (Contains h.individuals) c (d ∷ []) is.1))
tuple-of_two P h (c ∷ d ∷ e ∷ more) is each = absurd (omega (arith, is.0))

-- ---- steps

-- what is asked of the core predicates: those of variables and those of fields
pub record CoreFollows (p : SourceForm) (updates : List UpdateForm) (middle new : Heap) : Type 0 where
  pub variables : (x : ℕ) → IsVariableOf p x → (c : ℕ) → Contains new.individuals c → Follows updates middle new x (c ∷ [])
  pub fields : (f : ℕ) → IsFieldOf p f → (c d : ℕ) → Contains new.individuals c → Contains new.individuals d
      → Follows updates middle new (field_number p f) (c ∷ d ∷ [])
  -- no other predicate is updated
  pub others : (q : ℕ) → length p.variables + length p.fields ≤ q → update_for q updates ≡ None

core-defined : (vars : List ℕ) (body : Form) → KDefined vars body ≡ KCore → ⊥
core-defined vars body e = absurd (cc e)

core-follows : (p : SourceForm) (updates : List UpdateForm) (middle new : Heap) → CoreFollows p updates middle new
    → (q : ℕ) (d : PredForm) → PredAt p q d → d.kind ≡ KCore → (tuple : List ℕ) → IsTuple new d.arity tuple
    → Follows updates middle new q tuple
core-follows p updates middle new follows q d (of_variable declared name among e) core tuple fits =
    let Fits : PredForm → Type 0 = λ c. IsTuple new c.arity tuple
    in tuple-of_one (Follows updates middle new q) new tuple (subst Fits e fits) (follows.variables q declared)
core-follows p updates middle new follows q d (of_field f declared number name among e) core tuple fits =
    let Fits : PredForm → Type 0 = λ c. IsTuple new c.arity tuple
    in let At : ℕ → Type 0 = λ n. Follows updates middle new n tuple
    in subst At (sym number)
    (tuple-of_two (Follows updates middle new (field_number p f)) new tuple (subst Fits e fits) (follows.fields f declared))
core-follows p updates middle new follows q d (of_reach f x f_declared x_declared behind e) core tuple fits =
    let Core : PredForm → Type 0 = λ c. c.kind ≡ KCore in absurd (cc (subst Core e core))

given-agrees : (p : SourceForm) (mode : Mode) (action : ActionForm) (middle new : Heap) → CoreFollows p action.updates middle new
    → AgreesWithGiven (compiled p) mode action blank middle new
given-agrees p Recompute action middle new follows = tt
given-agrees p Given action middle new follows = λ q d found defined w update tuple fits. absurd (at q d (pred-at p q d found) defined w update)
  where
    at : (q : ℕ) (d : PredForm) → PredAt p q d → ¬ (d.kind ≡ KCore) → (w : UpdateForm) → update_for q action.updates ≡ Some w → ⊥
    at q d (of_variable declared name among e) defined w update = defined (cc e)
    at q d (of_field f declared number name among e) defined w update = defined (cc e)
    at q d (of_reach f x f_declared x_declared behind e) defined w update = absurd (cc (sym (follows.others q behind) ∙ update))

-- a fair step from the heap of one memory to that of another
pub fairly-steps : (p : SourceForm) (mode : Mode) (m n : Memory) (old middle new : Heap) → IsHeapOfMemory p m old → IsHeapOfMemory p n new
    → (pre : Option Form) (focus : List Form) (messages : List MessageForm) (fresh : Bool) (updates : List UpdateForm)
    → IfSome pre (Truth old blank) → IsMiddle fresh old middle → ((u : ℕ) → Contains new.individuals u ↔ Contains middle.individuals u)
    → CoreFollows p updates middle new
    → FairlySteps (compiled p) mode (keeping pre focus messages fresh updates) blank old new
fairly-steps p mode m n old middle new is becomes pre focus messages fresh updates enabled is_middle same follows = (
  middle,
  record {
    step = record {
      old_heap = is.is_heap;
      picks_individuals = All-nil (λ (v : ℕ). Contains old.individuals (blank v));
      precondition = enabled;
      is_middle = is_middle;
      keeps = λ u. (λ at. ((same u).0 at, tt), λ at. (same u).1 at.0);
      core = λ q d found core tuple fits. core-follows p updates middle new follows q d (pred-at p q d found) core tuple fits;
      new_heap = becomes.is_heap;
      concrete = becomes.concrete;
    };
    given = given-agrees p mode (keeping pre focus messages fresh updates) middle new follows;
    old_meets = meets p m old is;
    new_meets = meets p n new becomes;
  },
)
