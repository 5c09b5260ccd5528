use Rattle.std.proofs.Common.{◌≡◌, ℕ, List, length, All, None}
use Rattle.tv_model.specs.Program.{program_of}
use Rattle.tv_structure_form.specs.StructureForm.{IsOver}
use Rattle.tv_complete_text.proofs.Weaving.{AreSoFar}
use Rattle.tv_complete_text.proofs.text.all_completed.Given as goal

-- the structures so far
abbrev pub invariant-loop-k : goal.invariant-loop-k
invariant-loop-k l = record {
  completes : (bytes : List ℕ) → AreSoFar (program_of l.program) bytes l.named l.given l.list.items l.k;
  over : All (λ t. IsOver l.program.vocab t × (t.fresh ≡ None)) l.list.items;
  count : length l.list.items ≡ l.k;
}
