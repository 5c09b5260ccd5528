-- A dereference of null has a message that is true.
use Rattle.std.proofs.Common.{ℕ, ◌≡◌, List, [], ◌∷◌, ◌++◌, Some, None, slice_get, ⊎_elim, refl, sym, ap}
use Rattle.std.proofs.Common.{subst, arith, Contains}
use Rattle.std.specs.Prelude.{codes}
use Rattle.tv_model.specs.Form.{FNot}
use Rattle.tv_model.specs.Heap.{Heap}
use Rattle.tv_model.specs.Program.{MessageForm}
use Rattle.tv_model.specs.Rules.{blank}
use Rattle.tv_model.specs.Truth.{Truth}
use Rattle.tv_model.proofs.Lists.{Contains-cases, Contains-here, Contains-none}
use Rattle.tv_source.specs.Forms.{SourceForm, AssignForm, ANull, ANew, ACopy, ALoad, AStore, AClear, SAssign}
use Rattle.tv_source.specs.Valid.{IsAssignOf, IsVariableOf}
use Rattle.tv_plang_laws.specs.Compiled.{Arc, assign_action, compiled, name_in, node_at, program_arcs}
use Rattle.tv_plang_laws.specs.Compiled.{points_somewhere}
use Rattle.tv_plang_laws.specs.Heaps.{IsHeapOfMemory}
use Rattle.tv_plang_laws.specs.Laws.{Dereferences, HasTrueMessage, NullsAreTold}
use Rattle.tv_plang_laws.specs.Memories.{Memory}
use Rattle.tv_plang_laws.specs.Positions.{Numbered, last}
use Rattle.tv_plang_laws.specs.Steps.{State, GoThrough, first_number, position}
use Rattle.tv_plang_laws.proofs.Graph.{Fits, HasEdge, edge-action, has-edge}
use Rattle.tv_plang_laws.proofs.Runs.{first-among, fits-start, takes-first}
use Rattle.tv_plang_laws.proofs.Truths.{null-truly}

fits-later : (p : SourceForm) (s : State) (later : List State) → Fits p s.left → GoThrough s later → (t : State) → Contains (s ∷ later) t
    → Fits p t.left
fits-later p s [] fits goes t at =
    let Of : State → Type 0 = λ u. Fits p u.left
    in ⊎_elim (λ e. subst Of e fits) (λ none. absurd (Contains-none t none)) (Contains-cases s t [] at)
fits-later p s (next ∷ later) fits goes t at =
    let Of : State → Type 0 = λ u. Fits p u.left
    in ⊎_elim (λ e. subst Of e fits)
    (λ there. fits-later p next later (takes-first p s.left s.memory next fits goes.0).fits goes.1 t there)
    (Contains-cases s t (next ∷ later) at)

-- the message of a dereference
record TellsNull (p : SourceForm) (a : AssignForm) (z : ℕ) : Type 0 where
  variable : IsVariableOf p z
  message : MessageForm
  first : slice_get (assign_action p a).messages 0 ≡ Some message
  says : message.cond ≡ FNot (points_somewhere z)

tells-null : (p : SourceForm) (a : AssignForm) (z : ℕ) → IsAssignOf p a → Dereferences a z → TellsNull p a z
tells-null p (ANull x) z declared none = absurd none
tells-null p (ANew x) z declared none = absurd none
tells-null p (ACopy x y) z declared none = absurd none
tells-null p (ALoad x y f) z declared e =
    let Tells : ℕ → Type 0 = λ u. TellsNull p (ALoad x y f) u
    in let tells : TellsNull p (ALoad x y f) y = record {
      variable = declared.1;
      message = record { cond = FNot (points_somewhere y); text = codes "null dereference of " ++ name_in p.variables y };
      first = refl;
      says = refl;
    }
    in subst Tells (sym e) tells
tells-null p (AStore x f y) z declared e =
    let Tells : ℕ → Type 0 = λ u. TellsNull p (AStore x f y) u
    in let tells : TellsNull p (AStore x f y) x = record {
      variable = declared.0;
      message = record { cond = FNot (points_somewhere x); text = codes "null dereference of " ++ name_in p.variables x };
      first = refl;
      says = refl;
    }
    in subst Tells (sym e) tells
tells-null p (AClear x f) z declared e =
    let Tells : ℕ → Type 0 = λ u. TellsNull p (AClear x f) u
    in let tells : TellsNull p (AClear x f) x = record {
      variable = declared.0;
      message = record { cond = FNot (points_somewhere x); text = codes "null dereference of " ++ name_in p.variables x };
      first = refl;
      says = refl;
    }
    in subst Tells (sym e) tells

told : (p : SourceForm) (number : ℕ) (a : AssignForm) (behind : List Numbered) → Fits p (record { number = number; statement = SAssign a } ∷ behind)
    → (m : Memory) (z : ℕ) → Dereferences a z → m.variable z ≡ None → (h : Heap) → IsHeapOfMemory p m h
    → HasTrueMessage (compiled p) (node_at p number) h
told p number a behind fits m z dereferences null h is =
    let arc : Arc = record { from = number; action = assign_action p a; to = first_number behind (last p) }
    in let among : Contains (program_arcs p) arc = first-among p (record { number = number; statement = SAssign a }) behind fits arc (Contains-here arc [])
    in let has : HasEdge p 0 (program_arcs p) arc = has-edge p 0 (program_arcs p) arc among
    in let tells : TellsNull p a z = tells-null p a z fits.declared.0 dereferences
    in let Found : ℕ → Type 0 = λ i. slice_get (compiled p).actions i ≡ Some arc.action
    in record {
      edge = has.place;
      taken = has.edge;
      action = assign_action p a;
      message = tells.message;
      its_edge = has.its_place;
      leaves = has.from;
      its_action = subst Found (omega (arith, has.numbered)) (edge-action (program_arcs p) has.place arc has.found);
      its_message = tells.first;
      is_true = subst (Truth h blank) (sym tells.says) ((null-truly p m h is z tells.variable blank).1 null);
    }

pub nulls_are_told : NullsAreTold
nulls_are_told p valid s later start goes t at z meets h is =
    let fits : Fits p t.left = fits-later p s later (subst (Fits p) (sym start) (fits-start p valid)) goes t at
    in let first : position p t ≡ meets.number = ap (λ l. first_number l (last p)) meets.next
    in let At : ℕ → Type 0 = λ k. HasTrueMessage (compiled p) (node_at p k) h
    in subst At (sym first)
    (told p meets.number meets.assign meets.behind (subst (Fits p) meets.next fits) t.memory z meets.dereferences meets.null h is)
