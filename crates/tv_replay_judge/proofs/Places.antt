-- Structures in which a heap embeds, one after the other.
use Rattle.std.proofs.Common.{ℕ, ◌≡◌, ◌<◌, ◌≤◌, ◌+◌, List, length, map, take, take_all, get_or, Some, None}
use Rattle.std.proofs.Common.{sym, ap, subst, ◌∙◌}
use Rattle.std.specs.Prelude.{All, slice_get}
use Rattle.std.proofs.lemmas.Bool.{false≢true}
use Rattle.std.proofs.lemmas.List.{take_more}
use Rattle.std.proofs.lemmas.List.Elements.{All-nil, All-push}
use Rattle.std.proofs.lemmas.Option.{slice_get-get_or, get_or_from_slice_get}
use Rattle.tv_embedding_laws.specs.Embedding.{Embeds, IsEmbedded}
use Rattle.tv_embedding_laws.specs.LogicalStructure.{LogicalStructure, heap_structure}
use Rattle.tv_kleene.specs.Kleene.{LiesUnder}
use Rattle.tv_structure_form.specs.StructureForm.{StructureForm, IsStructure, structure_of}
use Rattle.tv_structure_form.proofs.Library.{below-range}
use Rattle.tv_two_valued.specs.TwoValued.{IsTwoValued, heap_of}
use Rattle.tv_two_valued.proofs.Truths.{heap-value}
use Rattle.tv_replay_laws.specs.Above.{IsNotAbove, IsFirstAbove}

-- what embeds the heap embeds the structure
embeds-same : (s : StructureForm) (t : LogicalStructure) (f : ℕ → ℕ) → IsStructure s → IsTwoValued s → Embeds f (heap_structure (heap_of s)) t
    → Embeds f (structure_of s) t
embeds-same s t f is two e = record {
  into = e.into;
  onto = e.onto;
  values = λ q p tuple all. subst (λ k. LiesUnder k (t.value q (map f tuple))) (heap-value s is two q tuple) (e.values q p tuple all);
  summaries = λ u at summary. absurd (false≢true (sym (two.summaries u (below-range s.size u at)) ∙ summary));
  several = e.several;
}

pub not-above : (s t : StructureForm) → IsStructure s → IsTwoValued s → (¬ IsEmbedded (structure_of s) (structure_of t)) → IsNotAbove s t
not-above s t is two none above = none (above.0, embeds-same s (structure_of t) above.0 is two above.1)

-- the heap embeds in none of the first n structures
abbrev pub NoneAbove : StructureForm → List StructureForm → ℕ → Type 0
NoneAbove s structures n = All (IsNotAbove s) (take n structures)

pub none-more : (s : StructureForm) (structures : List StructureForm) (n : ℕ) (t : StructureForm) → IsStructure s → IsTwoValued s → n < length structures
    → slice_get structures n ≡ Some t → NoneAbove s structures n → (¬ IsEmbedded (structure_of s) (structure_of t)) → NoneAbove s structures (n + 1)
none-more s structures n t is two below there before none =
    let e : get_or structures n t ≡ t = get_or_from_slice_get structures n t t there
    in subst (All (IsNotAbove s)) (sym (take_more structures n t below))
    (All-push (IsNotAbove s) (take n structures) (get_or structures n t) before (subst (IsNotAbove s) (sym e) (not-above s t is two none)))

pub none-all : (s : StructureForm) (structures : List StructureForm) (n : ℕ) → length structures ≤ n → NoneAbove s structures n
    → IsFirstAbove s structures None
none-all s structures n done before = subst (All (IsNotAbove s)) (take_all n structures done) before

pub item-there : (structures : List StructureForm) (n : ℕ) (t : StructureForm) → n < length structures → t ≡ get_or structures n t → slice_get structures n ≡ Some t
item-there structures n t below is = slice_get-get_or structures n t below ∙ ap Some (sym is)
