-- The two ways to make an unknown value definite.
use Rattle.std.proofs.Common.{ℕ, ◌≡◌, ◌≢◌, ◌∙◌, ◌⊎◌, List, [], ◌∷◌, AllPairs, Contains, inl, inr, refl, sym}
use Rattle.std.proofs.Common.{subst}
use Rattle.std.proofs.Common.{⊎_elim}
use Rattle.std.proofs.lemmas.List.Elements.{All-nil}
use Rattle.tv_kleene.specs.declared.K3.{K3}
use Rattle.tv_kleene.specs.declared.K3.TheVariants.{No, Yes}
use Rattle.tv_model.specs.Heap.{Heap}
use Rattle.tv_model.proofs.Lists.{Contains-here, Contains-cases, Contains-none}
use Rattle.tv_embedding_laws.specs.Embedding.{IsHeapOf}
use Rattle.tv_focus_laws.proofs.Writes.{IsStructure-with_value}
use Rattle.tv_structure_form.specs.Laws.{WritesOneEntry}
use Rattle.tv_structure_form.specs.StructureForm.{StructureForm, IsStructure, structure_of, table_of}
use Rattle.tv_structure_form.specs.StructureForm.{with_value}
use Rattle.tv_structure_form.specs.TableForm.{HasEntry}
use Rattle.tv_structure_form.proofs.StructureLaws.{writes_one_entry}
use Rattle.tv_start_laws.specs.Starts.{FitsBelow, KeepsStructure, IsSetTo}
use Rattle.tv_start_laws.proofs.Branching.{branches_lose_no_heap}
use Rattle.tv_start_laws.proofs.Fibring.{ordinaries_fit}
use Rattle.tv_openings.specs.Openings.{HasOrdinaries, IsPlainOpening}

set_to : (t : StructureForm) (q : ℕ) (tuple : List ℕ) (k : K3) → IsStructure t → HasEntry (table_of t) q tuple
    → IsSetTo (structure_of t) q (tuple ∷ []) k (structure_of (with_value t q tuple k))
set_to t q tuple k is has =
    let w : WritesOneEntry t q tuple k = writes_one_entry t q tuple k is has
    in record {
      individuals = refl;
      there = λ us at. ⊎_elim (λ same. subst (λ x. (structure_of
          (with_value t q tuple k)).value q x ≡ k) same w.written)
          (λ none. absurd (Contains-none us none)) (Contains-cases tuple us [] at);
      elsewhere = λ r us not. w.others r us (λ both. not (
        both.0,
        subst (Contains (tuple ∷ [])) (sym both.1) (Contains-here tuple []),
      ));
    }

-- a heap that embeds in a structure without summaries embeds in it with one of the two values
pub both_ways : (t : StructureForm) (q : ℕ) (tuple : List ℕ) → IsStructure t → HasOrdinaries t
    → HasEntry (table_of t) q tuple
    → (h : Heap) → AllPairs ◌≢◌ h.individuals → IsHeapOf h (structure_of t)
    → IsHeapOf h (structure_of (with_value t q tuple Yes)) ⊎ IsHeapOf h (structure_of (with_value t q tuple No))
both_ways t q tuple is alone has h apart lies =
    ⊎_elim (λ yes. inl (back Yes yes)) (λ no_. inr (back No no_))
    (branches_lose_no_heap (structure_of t) (structure_of (with_value t q tuple Yes))
    (structure_of (with_value t q tuple No)) q tuple [] (All-nil (KeepsStructure (structure_of t)))
    (set_to t q tuple Yes is has) (set_to t q tuple No is has) h
    ((ordinaries_fit t is alone h apart).0 lies))
  where
    back : (k : K3) → FitsBelow h (structure_of (with_value t q tuple k))
        → IsHeapOf h (structure_of (with_value t q tuple k))
    back k fits = (ordinaries_fit (with_value t q tuple k)
        (IsStructure-with_value t q tuple k is has) alone h apart).1 fits

pub valued_opening : (arities : List ℕ) (cells : ℕ) (t : StructureForm) (q : ℕ) (tuple : List ℕ) (k : K3)
    → IsPlainOpening arities cells t → HasEntry (table_of t) q tuple
    → IsPlainOpening arities cells (with_value t q tuple k)
valued_opening arities cells t q tuple k opening has = record {
  is = IsStructure-with_value t q tuple k opening.is has;
  over = (writes_one_entry t q tuple k opening.is has).arities ∙ opening.over;
  unmarked = opening.unmarked;
  ordinary = opening.ordinary;
  small = opening.small;
}
