use Rattle.std.proofs.Common.{◌↔◌, IsTrue, refl, subst}
use Rattle.std.proofs.lemmas.Bool.{false≢true}
use Rattle.tv_embedding_laws.specs.Embedding.{IsHeapOf}
use Rattle.tv_lemmas.proofs.Bools.{isnt_so}
use Rattle.tv_model.specs.Program.{program_of}
use Rattle.tv_model.specs.Run.{IsStart}
use Rattle.tv_structure_form.specs.StructureForm.{structure_of}
use Rattle.tv_two_valued.specs.TwoValued.{heap_of}
use Rattle.tv_heaps.proofs.judged.is_start_in.Goals as goal

pub returns-then-not-branch-clause-start : goal.returns-then-not-branch-clause-start
returns-then-not-branch-clause-start c =
    isnt_so (IsStart (program_of c.args.book.now.program.now) (heap_of c.args.t.now)
    × IsHeapOf (heap_of c.args.t.now) (structure_of c.args.s.now))
    (λ both. false≢true ((subst (λ b. IsTrue b ↔ IsStart (program_of c.args.book.now.program.now)
    (heap_of c.args.t.now))
    c.if-not-branch.true c.in_ok-is_start.ensures.start).1 both.0))

pub returns-clause-start : goal.returns-clause-start
returns-clause-start c =
    let start = subst (λ b. IsTrue b ↔ IsStart (program_of c.args.book.now.program.now) (heap_of c.args.t.now))
    c.if-not-branch.false c.in_ok-is_start.ensures.start
    in (λ t. (start.0 refl, c.in_ok-lies.ensures.0 t), λ both. c.in_ok-lies.ensures.1 both.1)
