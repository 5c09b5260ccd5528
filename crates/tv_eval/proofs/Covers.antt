-- A formula's value covers its values wherever a structure embeds.
use Rattle.std.proofs.Common.{ℕ, ◌≡◌, sym, subst}
use Rattle.tv_kleene.specs.declared.K3.{K3}
use Rattle.tv_kleene.specs.Kleene.{LiesUnder}
use Rattle.tv_model.specs.Form.{Form, Mentions}
use Rattle.tv_model.specs.Heap.{Heap}
use Rattle.tv_model.specs.Truth.{Assignment}
use Rattle.tv_model.specs.Valid.{NamesNew}
use Rattle.tv_embedding_laws.specs.LogicalStructure.{LogicalStructure, heap_structure}
use Rattle.tv_embedding_laws.specs.Embedding.{Embeds, EmbedsOn, EmbedsWithMarks}
use Rattle.tv_eval_laws.specs.Value.{value}
use Rattle.tv_eval_laws.specs.Laws.{EmbedsFor, TakesAlong, TellsOfHeap}
use Rattle.tv_eval_laws.proofs.Embedded.{embedding_theorem}
use Rattle.tv_eval_laws.proofs.InHeaps.{definite_values_are_sound}
use Rattle.tv_eval.specs.Sound.{CoversValues}

on_mentioned : (f : Form) (m : ℕ → ℕ) (s t : LogicalStructure) → Embeds m s t → EmbedsOn
    (λ pred. Mentions pred f) m s t
on_mentioned f m s t e = record {
  into = e.into;
  onto = e.onto;
  values = λ pred mentioned tuple within. e.values pred tt tuple within;
  summaries = e.summaries;
  several = e.several;
}

with_marks : (f : Form) (m : ℕ → ℕ) (s t : LogicalStructure) → EmbedsWithMarks m s t → EmbedsFor f m s t
with_marks f m s t e = record { mentioned = on_mentioned f m s t e.0; marks = λ names. e.1 }

without_marks : (f : Form) (m : ℕ → ℕ) (s t : LogicalStructure) → (¬ NamesNew f) → Embeds m s t → EmbedsFor f m s t
without_marks f m s t plain e = record { mentioned = on_mentioned f m s t e; marks = λ names. absurd (plain names) }

pub covers : (f : Form) (t : LogicalStructure) (b : Assignment) (x : K3) → x ≡ value t b f → CoversValues f t b x
covers f t b x is = record {
  with_marks = λ m s a e takes. under m s a (with_marks f m s t e) takes;
  without_marks = λ m s a plain e takes. under m s a (without_marks f m s t plain e) takes;
  as_seen = λ m s a e takes. under m s a e takes;
  heaps = λ m h a e takes. tells m h a e takes;
  marked_heaps = λ m h a e takes. tells m h a (with_marks f m (heap_structure h) t e) takes;
  plain_heaps = λ m h a plain e takes. tells m h a (without_marks f m (heap_structure h) t plain e) takes;
}
  where
    under : (m : ℕ → ℕ) (s : LogicalStructure) (a : Assignment) → EmbedsFor f m s t → TakesAlong m s f a b
        → LiesUnder (value s a f) x
    under m s a e takes =
        subst (λ k. LiesUnder (value s a f) k) (sym is) (embedding_theorem f m s t a b e takes)

    tells : (m : ℕ → ℕ) (h : Heap) (a : Assignment) → EmbedsFor f m (heap_structure h) t
        → TakesAlong m (heap_structure h) f a b → TellsOfHeap h a f x
    tells m h a e takes =
        subst (λ k. TellsOfHeap h a f k) (sym is) (definite_values_are_sound f m h t a b e takes)
