use Rattle.std.proofs.Common.{◌≡◌, ◌+◌, List, refl}
use Rattle.std.proofs.lemmas.Result.{err_from_is_err_and}
use Rattle.tv_model.specs.declared.program.Program.{Program}
use Rattle.tv_structure_form.specs.StructureForm.{StructureForm}
use Rattle.tv_lex.proofs.Begins.{one_more}
use Rattle.tv_texts.proofs.Loading.{rose_later, still}
use Rattle.tv_top.proofs.Begins.{initial_begun, program_begun}
use Rattle.tv_top.specs.Begins.{origin_begins}
use Rattle.tv_top.proofs.Causes.{unless_not_read, program_named, initial_named}
use Rattle.tv_top.proofs.Causes.{program_fault, initial_fault}
use Rattle.tv_top.specs.declared.inputs.Inputs.{Inputs}
use Rattle.tv_top.proofs.inputs.load_inputs.Goals as goal

pub returns-in_err-program-clause-cause : goal.returns-in_err-program-clause-cause
returns-in_err-program-clause-cause g c =
    let p = err_from_is_err_and c.from_residual.result c.from_residual.ensures.1 in
    rw (p.1, p.2) (λ command names. program_fault _ command c.args.origin _ names _ _ _ c.in_err-program.ensures.cause)

pub returns-in_err-program-clause-steady : goal.returns-in_err-program-clause-steady
returns-in_err-program-clause-steady g c =
    let p = err_from_is_err_and c.from_residual.result c.from_residual.ensures.1 in
    let new = c.load_origin.new.files in
    let old = c.args.files.now in
    rw (p.1, p.2) (λ s. unless_not_read Program Inputs c.in_err-program.field-0.0
    (g.F.Files.steady new × (g.F.Files.faults new ≡ g.F.Files.faults old))
    (g.F.Files.steady new × (g.F.Files.faults new ≡ g.F.Files.faults old)) (λ h. h) (c.in_err-program.ensures.steady s))

pub returns-in_err-initial-clause-cause : goal.returns-in_err-initial-clause-cause
returns-in_err-initial-clause-cause g c =
    let p = err_from_is_err_and c.from_residual-in_err-initial.result c.from_residual-in_err-initial.ensures.1 in
    let cause = rw c.in_ok-program.ensures.holds at c.in_err-initial.ensures.cause in
    rw (p.1, p.2) (λ command names. initial_fault _ command c.args.origin _ names c.in_ok-program.program _ _ _ _ _ c.in_ok-program.ensures.means
    (rose_later _ _ _ c.in_ok-program.ensures.count) (λ s. (c.in_ok-program.ensures.steady s).0) cause)

pub returns-in_err-initial-clause-steady : goal.returns-in_err-initial-clause-steady
returns-in_err-initial-clause-steady g c =
    let p = err_from_is_err_and c.from_residual-in_err-initial.result c.from_residual-in_err-initial.ensures.1 in
    let new = c.load_initial.new.files in
    let mid = c.load_origin.new.files in
    let old = c.args.files.now in
    rw (p.1, p.2) (λ s. let before = c.in_ok-program.ensures.steady s in
    unless_not_read (List StructureForm) Inputs c.in_err-initial.field-0.0
    (g.F.Files.steady new × (g.F.Files.faults new ≡ g.F.Files.faults mid))
    (g.F.Files.steady new × (g.F.Files.faults new ≡ g.F.Files.faults old))
    (λ h. still (g.F.Files.faults old) (g.F.Files.faults mid) (g.F.Files.faults new) (g.F.Files.steady new) before.1 h)
    (c.in_err-initial.ensures.steady before.0))

pub returns-clause-meant : goal.returns-clause-meant
returns-clause-meant g c = λ command names. record {
  program = program_named _ command c.args.origin _ names _ c.in_ok-program.ensures.means;
  initial = initial_named _ command c.args.origin _ names _ _ (rw c.in_ok-program.ensures.holds at c.in_ok-initial.ensures.means);
  mode = refl;
}

pub returns-clause-ready : goal.returns-clause-ready
returns-clause-ready g c = record {
  valid = c.in_ok-program.ensures.valid;
  over = c.in_ok-initial.ensures.over;
  kept = c.in_ok-initial.ensures.kept;
  few = c.in_ok-initial.ensures.few;
}

pub returns-clause-steady : goal.returns-clause-steady
returns-clause-steady g c = λ s.
    let before = c.in_ok-program.ensures.steady s in still _ _ _ _ before.1 (c.in_ok-initial.ensures.steady before.0)

pub returns-clause-begins : goal.returns-clause-begins
returns-clause-begins g c =
    one_more _ (λ held. origin_begins held c.args.origin) (λ held. origin_begins held c.args.origin + 1) _ _ _
    (λ held. refl) c.in_ok-program.ensures.begins c.in_ok-initial.ensures.begins

pub returns-in_err-program-clause-begun : goal.returns-in_err-program-clause-begun
returns-in_err-program-clause-begun g c =
    let p = err_from_is_err_and c.from_residual.result c.from_residual.ensures.1 in
    rw (p.1, p.2) (λ command names. program_begun _ command c.args.origin _ names _ _ _ _ _ _ _
    c.in_err-program.ensures.cause c.in_err-program.ensures.begins)

pub returns-in_err-initial-clause-begun : goal.returns-in_err-initial-clause-begun
returns-in_err-initial-clause-begun g c =
    let p = err_from_is_err_and c.from_residual-in_err-initial.result c.from_residual-in_err-initial.ensures.1 in
    rw (p.1, p.2) (λ command names. initial_begun _ command c.args.origin _ names _ _ _ _ _ _ _ _
    c.in_err-initial.ensures.cause c.in_ok-program.ensures.begins c.in_err-initial.ensures.begins)
