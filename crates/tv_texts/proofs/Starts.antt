-- From the structures of a text to the one heap that it means, or to why it means none.
use Rattle.std.proofs.Common.{◌≡◌, ◌<◌, ℕ, List, [], ◌∷◌, None, Ok, Err, refl, subst, arith}
use Rattle.std.specs.Prelude.{All}
use Rattle.tv_model.specs.declared.program.Program.{Program}
use Rattle.tv_model.specs.declared.program.Vocab.{Vocab}
use Rattle.tv_status.specs.declared.status.FileKind.{FileKind}
use Rattle.tv_status.specs.declared.status.FileKind.TheVariants as kind
use Rattle.tv_status.specs.declared.status.Role.TheVariants as role
use Rattle.tv_structure_form.specs.StructureForm.{StructureForm, IsOver}
use Rattle.tv_texts.specs.Files.{IsTextCause}
use Rattle.tv_texts.specs.Meaning.{AreOneHeap, MeansInitial, MeansStart}
use Rattle.tv_texts.specs.declared.fault.TextFault.{TextFault}
use Rattle.tv_texts.specs.declared.fault.TextFault.TheVariants.{Refused, NotRead, Memory}
use Rattle.tv_two_valued.specs.TwoValued.{IsTwoValued}

pub heap_means : (p : Program) (text : List ℕ) (ss : List StructureForm) (s : StructureForm) → MeansInitial p text (Ok ss)
    → (ss ≡ s ∷ []) × IsTwoValued s → MeansStart p text (Ok s)
heap_means p text ss s means is = (subst (λ ts. MeansInitial p text (Ok ts)) is.0 means, is.1)

pub heap_over : (vocab : Vocab) (ss : List StructureForm) (s : StructureForm)
    → All (λ t. IsOver vocab t × (t.fresh ≡ None)) ss → ss ≡ s ∷ [] → IsOver vocab s × (s.fresh ≡ None)
heap_over vocab ss s all is = (subst (All (λ t. IsOver vocab t × (t.fresh ≡ None))) is all) 0 s one
  where
    one : 0 < 1
    one = omega arith

pub other_structures : (p : Program) (text : List ℕ) (ss : List StructureForm) (fault : TextFault) → MeansInitial p text (Ok ss)
    → (fault ≡ Refused role.Start kind.NotHeap) × (¬ AreOneHeap ss)
    → IsTextCause role.Start (λ k. MeansStart p text (Err k)) fault
other_structures p text ss fault means is = rw is.0 (refl, (ss, means, is.1))

no_heap : (p : Program) (text : List ℕ) (k : FileKind) → MeansInitial p text (Err k) → MeansStart p text (Err k)
no_heap p text kind.NotHeap h = absurd h
no_heap p text other h = h

pub no_structures : (p : Program) (text : List ℕ) (fault : TextFault)
    → IsTextCause role.Start (λ k. MeansInitial p text (Err k)) fault → IsTextCause role.Start (λ k. MeansStart p text (Err k)) fault
no_structures p text (Refused its k) h = (h.0, no_heap p text k h.1)
no_structures p text NotRead h = absurd h.0
no_structures p text Memory h = tt
