-- Values of messages are noted.
use Rattle.std.proofs.Common.{ℕ, ◌≡◌, ◌≢◌, ◌<◌, ◌≤◌, ◌⊎◌, inl, inr, List, length, get_or, Some, refl, sym, ap}
use Rattle.std.proofs.Common.{subst, ◌∙◌, eq-eqb, arith}
use Rattle.std.specs.Prelude.{slice_get}
use Rattle.std.proofs.lemmas.Bool.{cases_eq, cases_lt, ne_eqb}
use Rattle.std.proofs.lemmas.List.{get_or_past, length-map}
use Rattle.std.proofs.lemmas.List.Elements.{All-contains}
use Rattle.std.proofs.lemmas.Option.{slice_get-get_or, get_or_from_slice_get}
use Rattle.tv_kleene.specs.declared.K3.{K3}
use Rattle.tv_kleene.specs.declared.K3.TheVariants.{No}
use Rattle.tv_kleene.specs.Kleene.{larger_of}
use Rattle.tv_kleene.proofs.Lattice.{larger-either}
use Rattle.tv_model.specs.Program.{ProgramForm}
use Rattle.tv_model.specs.Valid.{IsAction, IsValid}
use Rattle.tv_model.proofs.Lists.{slice_get-contains}
use Rattle.tv_structure_form.specs.StructureForm.{StructureForm}
use Rattle.tv_step_laws.specs.Transfer.{AreMessageValues, IsMessageValue, message_value}
use Rattle.tv_step_laws.proofs.Exact.{values-once}
use Rattle.tv_work.specs.Analyzed.{IsAtSource, IsSaid}
use Rattle.tv_work.specs.Explored.{AreSaid, KeepsListed}
use Rattle.tv_work.specs.Reach.{Point, IsListed}
use Rattle.tv_work.specs.Task.{TaskForm}
use Rattle.tv_work.specs.Told.{told_value, IsNoted}
use Rattle.tv_work.proofs.Larger.{larger-self, larger-above_left, larger-above_right}

module _ (edge : ℕ) (values : List K3) (old new : List (List K3)) (noted : IsNoted edge values old new) where
  pub noted-here : (n : ℕ) → told_value new edge n ≡ larger_of (get_or values n No) (told_value old edge n)
  noted-here n = noted edge n ∙ (rw (eq-eqb edge edge refl) refl)

  noted-other : (e n : ℕ) → e ≢ edge → told_value new e n ≡ told_value old e n
  noted-other e n differs = noted e n ∙ (rw (ne_eqb e edge differs) refl)

  -- no value falls
  pub noted-rises : (e n : ℕ) → larger_of (told_value old e n) (told_value new e n) ≡ told_value new e n
  noted-rises e n = by (cases_eq e edge)
    where
      by : (e ≡ edge) ⊎ (e ≢ edge) → larger_of (told_value old e n) (told_value new e n) ≡ told_value new e n
      by (inl same) = rw (same, noted-here n)
          (larger-above_right (get_or values n No) (told_value old edge n))
      by (inr differs) = rw (noted-other e n differs) (larger-self (told_value old e n))

  -- and those that were noted are told
  pub noted-tells : (p : ProgramForm) (s : StructureForm) → AreMessageValues p edge s values
      → (n : ℕ) (k : K3) → IsMessageValue p edge s n k → larger_of k (told_value new edge n)
      ≡ told_value new edge n
  noted-tells p s are n k (ks, too, at) =
      let here : slice_get values n ≡ Some k = ap (λ vs. slice_get vs n)
      (values-once p edge s values ks are too) ∙ at
      in let is : get_or values n No ≡ k = get_or_from_slice_get values n k No here
      in rw (noted-here n, is) (larger-above_left k (told_value old edge n))

pub said-weaker : (p : ProgramForm) (P Q : Point → Type 0) (edge n : ℕ) (k : K3) → ((x : Point) → P x → Q x)
    → IsSaid p P edge n k → IsSaid p Q edge n k
said-weaker p P Q edge n k more said = record {
  at = said.at;
  source = record {
    taken = said.source.taken;
    is_edge = said.source.is_edge;
    leaves = said.source.leaves;
    has = more said.at said.source.has;
  };
  value = said.value;
}

pub said-kept : (t : TaskForm) (old new : List (List StructureForm)) (told : List (List K3))
    → KeepsListed old new
    → AreSaid t old told → AreSaid t new told
said-kept t old new told keeps are = record {
  edges = are.edges;
  said = λ e n some. said-weaker t.program (IsListed old) (IsListed new) e n (told_value told e n) keeps
      (are.said e n some);
}

module _ (t : TaskForm) (listing : List (List StructureForm)) (x : Point) (edge : ℕ)
    (source : IsAtSource t.program edge (IsListed listing) x) (values : List K3)
    (are : AreMessageValues t.program edge x.structure values) where
  here-said : (n : ℕ) → get_or values n No ≢ No → IsSaid t.program (IsListed listing) edge n
      (get_or values n No)
  here-said n some = record {
    at = x;
    source = source;
    value = (values, are, slice_get-get_or values n No (within (cases_lt n (length values))));
  }
    where
      within : (n < length values) ⊎ (length values ≤ n) → n < length values
      within (inl lt) = lt
      within (inr past) = absurd (some (get_or_past values n No past))

  -- what is told after the values were noted is said
  pub said-noted : (old new : List (List K3)) → IsNoted edge values old new → length new ≡ length old
      → AreSaid t listing old → AreSaid t listing new
  said-noted old new noted count before = record {
    edges = count ∙ before.edges;
    said = λ e n some. by e n (cases_eq e edge) some;
  }
    where
      at-edge : (n : ℕ) → told_value new edge n ≢ No
          → (larger_of (get_or values n No) (told_value old edge n) ≡ get_or values n No)
          ⊎ (larger_of (get_or values n No) (told_value old edge n) ≡ told_value old edge n)
          → IsSaid t.program (IsListed listing) edge n (told_value new edge n)
      at-edge n some (inl first) =
          let is : told_value new edge n ≡ get_or values n No = noted-here edge values old new noted n ∙ first
          in subst (IsSaid t.program (IsListed listing) edge n) (sym is)
          (here-said n (λ none. some (is ∙ none)))
      at-edge n some (inr second) =
          let is : told_value new edge n ≡ told_value old edge n = noted-here edge values old new noted n
          ∙ second
          in subst (IsSaid t.program (IsListed listing) edge n) (sym is)
          (before.said edge n (λ none. some (is ∙ none)))

      by : (e n : ℕ) → (e ≡ edge) ⊎ (e ≢ edge) → told_value new e n ≢ No
          → IsSaid t.program (IsListed listing) e n (told_value new e n)
      by e n (inl same) some = subst (λ m. IsSaid t.program (IsListed listing) m n (told_value new m n))
          (sym same)
          (at-edge n (subst (λ m. told_value new m n ≢ No) same some)
          (larger-either (get_or values n No) (told_value old edge n)))
      by e n (inr differs) some =
          let is : told_value new e n ≡ told_value old e n = noted-other edge values old new noted e n differs
          in subst (IsSaid t.program (IsListed listing) e n) (sym is)
          (before.said e n (λ none. some (is ∙ none)))

-- an action has few messages
pub values-few : (p : ProgramForm) → IsValid p → (edge : ℕ) (s : StructureForm) (values : List K3)
    → AreMessageValues p edge s values → length values ≤ 65536
values-few p valid edge s values are =
    let has = slice_get-contains p.actions are.its_action.taken.action are.action are.its_action.its_action
    in let count : length values ≡ length are.action.messages
    = ap length are.are ∙ length-map are.action.messages (message_value are.at_hand)
    in omega (arith, count, (All-contains (IsAction p) p.actions are.action valid.actions has).message_count)
