-- What a heap is judged to be.
use Rattle.std.proofs.Common.{ℕ, List, ◌≡◌, ◌↔◌, ◌∙◌, Bool, true, false, IsTrue, Option, None, Some, map}
use Rattle.std.proofs.Common.{refl, sym}
use Rattle.std.specs.Prelude.{is_some, not, IfSome, IfNone}
use Rattle.std.specs.Option.{option_map}
use Rattle.std.proofs.lemmas.Bool.{false≢true}
use Rattle.tv_embed.specs.Maps.{IsLeastEmbedding, image_of}
use Rattle.tv_embedding_laws.specs.Embedding.{IsEmbedded, IsHeapOf}
use Rattle.tv_eval.specs.ScratchForm.{ScratchForm}
use Rattle.tv_lemmas.proofs.Lists.{All-found}
use Rattle.tv_model.specs.declared.formula.PredId.{PredId}
use Rattle.tv_model.specs.Program.{ProgramForm, program_of}
use Rattle.tv_model.specs.Rules.{MeetsRule}
use Rattle.tv_model.specs.Run.{IsStart}
use Rattle.tv_model.proofs.Parts.{arities-same}
use Rattle.tv_replay_judge.specs.Ready.{IsReadyToEvaluate}
use Rattle.tv_replay_judge.proofs.Places.{not-above}
use Rattle.tv_replay_laws.specs.Judged.{IsFirst, IsAsDefined}
use Rattle.tv_replay_laws.specs.JudgedRules.{IsFirstUnmet, judged_rules}
use Rattle.tv_replay_laws.proofs.JudgedRules.{judged_are_all}
use Rattle.tv_replay_laws.proofs.Named.{embeds-heap}
use Rattle.tv_structure_form.specs.StructureForm.{StructureForm, IsStructure, IsOver, arities_of}
use Rattle.tv_structure_form.specs.StructureForm.{structure_of}
use Rattle.tv_two_valued.specs.Laws.{IsOfProgram}
use Rattle.tv_two_valued.specs.TwoValued.{IsTwoValued, heap_of}
use Rattle.tv_two_valued.proofs.Heaps.{heap-of_program}
use Rattle.tv_heaps.specs.Judging.{IsReadyBook}
use Rattle.tv_heaps.specs.declared.rulebook.Rulebook.{Rulebook}

pub over_program : (book : Rulebook) (t : StructureForm) → IsOver book.program.now.vocab t
    → arities_of t ≡ map (λ d. d.arity) (program_of book.program.now).preds
over_program book t over = over ∙ sym (arities-same book.program.now.vocab.preds)

pub ready_book : (book : Rulebook) (room : ScratchForm) (t : StructureForm) → IsReadyBook book room
    → IsOver book.program.now.vocab t → IsStructure t → IsTwoValued t
    → IsReadyToEvaluate (program_of book.program.now) t room
ready_book book room t ready over is two = record {
  valid = ready.valid;
  structure = is;
  two_valued = two;
  arities = over_program book t over;
  room = ready.room;
}

pub unlike_none : (p : ProgramForm) (t : StructureForm) (o : Option PredId)
    → IsFirst p.preds (IsAsDefined (heap_of t)) (option_map (λ q. q.0) o) → is_some o ≡ true → ¬ IsStart p (heap_of t)
unlike_none p t None is e = absurd (false≢true e)
unlike_none p t (Some q) is e = λ start. is.0.2 (start.concrete q.0 is.0.0 is.0.1)

pub alike_unmet : (p : ProgramForm) (t : StructureForm) → IsStructure t → IsOfProgram p t → (o : Option PredId)
    → IsFirst p.preds (IsAsDefined (heap_of t)) (option_map (λ q. q.0) o) → is_some o ≡ false
    → (u : Option ℕ) → IsFirstUnmet (heap_of t) (judged_rules p) u → (b : Bool) → is_some u ≡ not b
    → IsTrue b ↔ IsStart p (heap_of t)
alike_unmet p t is over (Some q) alike e u unmet b none = absurd (false≢true (sym e))
alike_unmet p t is over None alike e None unmet true none = (
  λ t_. record {
    is_heap = heap-of_program p t is over;
    concrete = alike;
    meets = (judged_are_all p
        (heap_of t)).0 unmet;
  },
  λ start. refl,
)
alike_unmet p t is over None alike e None unmet false none = absurd (false≢true none)
alike_unmet p t is over None alike e (Some n) unmet true none = absurd (false≢true (sym none))
alike_unmet p t is over None alike e (Some n) unmet false none = (
  λ no_. absurd (false≢true no_),
  λ start. absurd (unmet.0.2
      (All-found (MeetsRule (heap_of t)) (judged_rules p) n unmet.0.0 ((judged_are_all p
      (heap_of t)).1 start.meets) unmet.0.1)),
)

pub lies_found : (t s : StructureForm) → IsStructure t → IsTwoValued t → (found : Option (List ℕ))
    → IfSome found (IsLeastEmbedding t s) → IfNone found (¬ IsEmbedded (structure_of t) (structure_of s))
    → (b : Bool) → b ≡ is_some found → IsTrue b ↔ IsHeapOf (heap_of t) (structure_of s)
lies_found t s is two None least none b e = (
  λ yes. absurd (false≢true (sym e ∙ yes)),
  λ lies. absurd (not-above t s is two none lies),
)
lies_found t s is two (Some found) least none b e = (
  λ yes. embeds-heap t s (image_of found) is two least.0.1,
  λ lies. e,
)
