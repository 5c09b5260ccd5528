-- Truth in the heap of a two-valued structure.
use Rattle.std.proofs.Common.{ℕ, ◌≡◌, ◌<◌, ◌↔◌, Bool, true, false, List, Option, IsTrue, if◌then◌else◌, refl}
use Rattle.std.proofs.Common.{sym, ap, subst}
use Rattle.std.specs.Prelude.{Contains, Some, None, IsSomeAnd, unwrap_or}
use Rattle.std.specs.List.{range_with_len}
use Rattle.tv_kleene.specs.declared.K3.{K3}
use Rattle.tv_kleene.specs.declared.K3.TheVariants.{No, Half, Yes}
use Rattle.tv_kleene.specs.Kleene.{is_yes}
use Rattle.tv_kleene.proofs.Lattice.{same-definite}
use Rattle.tv_eval.specs.AssignmentForm.{assignment_of, individual_for}
use Rattle.tv_eval.specs.Formulas.{AreAssigned}
use Rattle.tv_embedding_laws.specs.LogicalStructure.{heap_structure}
use Rattle.tv_embedding_laws.proofs.EmbeddingLaws.{reads_heap}
use Rattle.tv_model.specs.Form.{Form}
use Rattle.tv_model.specs.Truth.{Assignment, Truth}
use Rattle.tv_structure_form.specs.StructureForm.{StructureForm, IsStructure, structure_of, value_at}
use Rattle.tv_structure_form.proofs.Library.{Contains-range, below-range}
use Rattle.tv_eval_laws.specs.Laws.{GivesIndividuals, LooksAlike, TellsTruth}
use Rattle.tv_eval_laws.specs.Value.{value}
use Rattle.tv_eval_laws.proofs.InHeaps.{heaps_tell_truth}
use Rattle.tv_eval_laws.proofs.Embedded.{values_are_local}
use Rattle.tv_two_valued.specs.TwoValued.{IsTwoValued, heap_of}
use Rattle.tv_two_valued.specs.Laws.{TruthIsTold}
use Rattle.tv_two_valued.proofs.Heaps.{heap-told}

heap-definite : (b : Bool) → (if b then Yes else No) ≡ Half → ⊥
heap-definite true e = cc
heap-definite false e = cc

pub heap-value : (s : StructureForm) → IsStructure s → IsTwoValued s → (q : ℕ) (tuple : List ℕ)
    → (heap_structure (heap_of s)).value q tuple ≡ value_at s q tuple
heap-value s is two q tuple =
    let reads = (reads_heap (heap_of s)).yes q tuple
    in let told = (heap-told s is).holds q tuple
    in same-definite ((heap_structure (heap_of s)).value q tuple) (value_at s q tuple) (heap-definite _) (two.values q tuple)
    (λ y. told.0 (reads.0 y), λ y. reads.1 (told.1 y))

pub looks-alike : (f : Form) (s : StructureForm) → IsStructure s → IsTwoValued s → LooksAlike f (heap_structure (heap_of s)) (structure_of s)
looks-alike f s is two = record {
  individuals = λ u. (λ x. x, λ x. x);
  values = λ q mentioned tuple all. heap-value s is two q tuple;
  summaries = λ u at. sym (two.summaries u (below-range s.size u at));
  marks = λ named. refl;
}

same-value : (s : StructureForm) (a : Assignment) (f : Form) → IsStructure s → IsTwoValued s → GivesIndividuals (heap_of s).individuals f a
    → value (heap_structure (heap_of s)) a f ≡ value (structure_of s) a f
same-value s a f is two gives =
    values_are_local f (heap_structure (heap_of s)) (structure_of s) a a (looks-alike f s is two) (λ v free. (gives v free, refl))

pub truth_is_told : TruthIsTold
truth_is_told s a f is two gives =
    let tells : TellsTruth (heap_of s) a f = heaps_tell_truth (heap_of s) a f gives
    in let same = same-value s a f is two gives
    in record {
      yes = subst (λ k. k ≡ Yes ↔ Truth (heap_of s) a f) same tells.yes;
      no = subst (λ k. k ≡ No ↔ (¬ Truth (heap_of s) a f)) same tells.no;
    }

pub from-assigned : (n : ℕ) (o : Option ℕ) → IsSomeAnd o (λ u. u < n) → Contains (range_with_len 0 n) (unwrap_or o 0)
from-assigned n None none = absurd none
from-assigned n (Some u) lt = Contains-range n u lt

pub gives-assigned : (s : StructureForm) (places : List (Option ℕ)) (f : Form) → AreAssigned s.size places f
    → GivesIndividuals (heap_of s).individuals f (assignment_of places)
gives-assigned s places f assigned v free = from-assigned s.size (individual_for places v) (assigned v free)

pub answers_truth : (s : StructureForm) (places : List (Option ℕ)) (f : Form) → IsStructure s → IsTwoValued s → AreAssigned s.size places f
    → IsTrue (is_yes (value (structure_of s) (assignment_of places) f)) ↔ Truth (heap_of s) (assignment_of places) f
answers_truth s places f is two assigned =
    let told = truth_is_told s (assignment_of places) f is two (gives-assigned s places f assigned)
    in (λ t. told.yes.0 (yes-is _ t), λ truth. ap is_yes (told.yes.1 truth))
  where
    yes-is : (k : K3) → is_yes k ≡ true → k ≡ Yes
    yes-is No e = absurd cc
    yes-is Half e = absurd cc
    yes-is Yes e = refl
