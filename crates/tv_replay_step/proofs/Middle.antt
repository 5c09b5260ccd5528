-- Values in the middle structure of a heap tell the truth of the middle heap.
use Rattle.std.proofs.Common.{ℕ, ◌≡◌, ◌<◌, ◌+◌, ◌++◌, ◌↔◌, Bool, true, false, List, [], ◌∷◌, Some, ⊎_elim}
use Rattle.std.proofs.Common.{refl, sym, ap, subst, ◌∙◌, arith, Contains, All}
use Rattle.std.specs.List.{range_with_len}
use Rattle.std.proofs.lemmas.List.Elements.{recursion_from_All}
use Rattle.tv_update_laws.specs.Applied.{IsGrown}
use Rattle.tv_update_laws.specs.Tables.{middle_table}
use Rattle.tv_update_laws.proofs.Tables.{tables_are_middle}
use Rattle.tv_embedding_laws.specs.LogicalStructure.{heap_structure}
use Rattle.tv_kleene.specs.declared.K3.{K3}
use Rattle.tv_kleene.specs.declared.K3.TheVariants.{No, Half, Yes}
use Rattle.tv_model.specs.Form.{Form, FAtom}
use Rattle.tv_model.specs.Heap.{Heap}
use Rattle.tv_model.specs.Step.{with_new}
use Rattle.tv_model.specs.Truth.{Assignment, Truth}
use Rattle.tv_model.proofs.Lists.{pushed-cases}
use Rattle.tv_replay_laws.specs.Next.{middle_of}
use Rattle.tv_structure_form.specs.StructureForm.{StructureForm, IsStructure, structure_of, value_at}
use Rattle.tv_structure_form.specs.StructureForm.{summary_at}
use Rattle.tv_structure_form.specs.StructureForm as structures
use Rattle.tv_structure_form.proofs.Library.{below-range}
use Rattle.tv_structure_form.proofs.StructureLaws.{drawn_reads}
use Rattle.tv_two_valued.specs.TwoValued.{IsTwoValued, heap_of}
use Rattle.tv_two_valued.proofs.Truths.{heap-value, looks-alike}
use Rattle.tv_eval_laws.specs.Laws.{GivesIndividuals, LooksAlike, TellsTruth}
use Rattle.tv_eval_laws.specs.Value.{value}
use Rattle.tv_eval_laws.proofs.Embedded.{values_are_local}
use Rattle.tv_eval_laws.proofs.InHeaps.{heaps_tell_truth}

-- the value is Yes where the fact holds, and else No
pub record Tells (k : K3) (P : Type 0) : Type 0 where
  pub yes : k ≡ Yes ↔ P
  pub no : k ≡ No ↔ (¬ P)
  pub definite : k ≡ Half → ⊥

-- ---- the middle heap read as a structure looks like the middle structure

module _ (s : StructureForm) (is : IsStructure s) (two : IsTwoValued s) where
  grown : IsGrown (structure_of s) (structure_of (structures.with_new s))
  grown = tables_are_middle true s is

  further-last : grown.further ≡ s.size
  further-last = let e : Some s.size ≡ Some grown.further = grown.mark in cc

  individuals-same : (structure_of (structures.with_new s)).individuals ≡ range_with_len 0 s.size ++ s.size ∷ []
  individuals-same = grown.individuals ∙ ap (λ u. range_with_len 0 s.size ++ u ∷ []) further-last

  no-summary : (u : ℕ) → Contains (range_with_len 0 s.size ++ s.size ∷ []) u → summary_at (structures.with_new s) u ≡ false
  no-summary u at =
      ⊎_elim (λ old. grown.summaries u old ∙ two.summaries u (below-range s.size u old))
      (λ last. ap (summary_at (structures.with_new s)) (last ∙ sym further-last) ∙ grown.ordinary)
      (pushed-cases (range_with_len 0 s.size) s.size u at)

  below-new : (u : ℕ) → Contains (range_with_len 0 s.size ++ s.size ∷ []) u → u < s.size + 1
  below-new u at =
      ⊎_elim (λ old. let lt : u < s.size = below-range s.size u old in omega (arith, lt)) (λ last. omega (arith, last))
      (pushed-cases (range_with_len 0 s.size) s.size u at)

  same-new : (q : ℕ) (tuple : List ℕ) → All (Contains (range_with_len 0 s.size ++ s.size ∷ [])) tuple
      → (heap_structure (with_new (heap_of s) s.size)).value q tuple ≡ value_at (structures.with_new s) q tuple
  same-new q tuple all =
      heap-value s is two q tuple
      ∙ sym ((drawn_reads s is).with_new q tuple (recursion_from_All (λ u. u < s.size + 1) tuple (λ k d lt. below-new _ (all k d lt))))

  pub middle-alike : (f : Form) (fresh : Bool) → LooksAlike f (heap_structure (middle_of fresh s)) (structure_of (middle_table fresh s))
  middle-alike f false = looks-alike f s is two
  middle-alike f true = record {
    individuals = λ u. (
      λ at. subst (λ us. Contains us u) (sym individuals-same) at,
      λ at. subst (λ us. Contains us u) individuals-same at,
    );
    values = λ q mentioned tuple all. same-new q tuple all;
    summaries = λ u at. sym (no-summary u at);
    marks = λ named. refl;
  }

  -- the values of both are the same
  pub middle-value : (fresh : Bool) (q : ℕ) (ws : List ℕ) → All (Contains (middle_of fresh s).individuals) ws
      → (heap_structure (middle_of fresh s)).value q ws ≡ value_at (middle_table fresh s) q ws
  middle-value fresh q ws all = (middle-alike (FAtom q []) fresh).values q refl ws all

  -- the value in the middle structure tells the truth of the middle heap
  pub middle-tells : (fresh : Bool) (a : Assignment) (f : Form) → GivesIndividuals (middle_of fresh s).individuals f a
      → Tells (value (structure_of (middle_table fresh s)) a f) (Truth (middle_of fresh s) a f)
  middle-tells fresh a f gives =
      let h : Heap = middle_of fresh s
      in let tells : TellsTruth h a f = heaps_tell_truth h a f gives
      in let same : value (heap_structure h) a f ≡ value (structure_of (middle_table fresh s)) a f
      = values_are_local f (heap_structure h) (structure_of (middle_table fresh s)) a a (middle-alike f fresh) (λ v free. (gives v free, refl))
      in let yes : value (structure_of (middle_table fresh s)) a f ≡ Yes ↔ Truth h a f = subst (λ k. k ≡ Yes ↔ Truth h a f) same tells.yes
      in let no : value (structure_of (middle_table fresh s)) a f ≡ No ↔ (¬ Truth h a f) = subst (λ k. k ≡ No ↔ (¬ Truth h a f)) same tells.no
      in record {
        yes = yes;
        no = no;
        definite = λ half.
            ⊎_elim (λ t. yes-half (sym (yes.1 t) ∙ half)) (λ n. no-half (sym (no.1 n) ∙ half)) tells.decided;
      }
    where
      yes-half : Yes ≡ Half → ⊥
      yes-half e = cc

      no-half : No ≡ Half → ⊥
      no-half e = cc
