use Rattle.std.proofs.Common.{Ok, List, [], ℕ, subst, refl, sym}
use Rattle.std.proofs.lemmas.Result.{err_from_is_err_and}
use Rattle.tv_lex.specs.Gather.{PutCause, Puts, file_events, deepest_include}
use Rattle.tv_lex.proofs.Gathering.{gather_cause, gathers_text}
use Rattle.tv_lex.proofs.Parting.{first_file}
use Rattle.tv_lex.specs.Parts.{IsMadeOf}
use Rattle.tv_lex.specs.declared.gatherer.Gathered.{Gathered}
use Rattle.tv_lex.proofs.gatherer.gather.Goals as goal

pub returns-in_err-put_file-clause-cause : goal.returns-in_err-put_file-clause-cause
returns-in_err-put_file-clause-cause g c =
    let p = err_from_is_err_and c.from_residual.result c.from_residual.ensures.1 in
    let f = g.F.Files in
    let told = f.holds c.args.files.now in
    let fault = c.in_err-put_file.field-0.0 in
    rw (p.1, p.2) (gather_cause fault told c.args.name.now (f.steady c.args.files.now) (f.faults c.args.files.now) (f.faults c.put_file.new.files)
    (subst (λ (old : List ℕ). PutCause fault told (λ held. file_events held deepest_include c.args.name.now) old (f.steady c.args.files.now) (f.faults c.args.files.now) (f.faults c.put_file.new.files)) c.new.ensures.items c.in_err-put_file.ensures.cause))

pub returns-clause-text : goal.returns-clause-text
returns-clause-text g c =
    let told = g.F.Files.holds c.args.files.now in
    let text = c.put_file.new.out.bytes.items in
    gathers_text told c.args.name.now text
    (subst (λ (old : List ℕ). Puts told (λ held. file_events held deepest_include c.args.name.now) old (Ok text)) c.new.ensures.items c.in_ok-put_file.ensures.put)

pub returns-clause-parts : goal.returns-clause-parts
returns-clause-parts g c =
    let old : Gathered = record { bytes = c.new.result; parts = c.new-2.result } in
    let none : IsMadeOf [] old = (sym c.new.ensures.items, rw c.new-2.ensures.items refl) in
    first_file (g.F.Files.holds c.args.files.now) c.args.name.now old c.put_file.new.out none c.in_ok-put_file.ensures.parts
