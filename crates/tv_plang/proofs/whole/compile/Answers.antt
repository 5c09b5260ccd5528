use Rattle.std.proofs.Common.{◌≡◌, Result, Ok, Err, sym, subst, arith}
use Rattle.std.specs.Prelude.{IfOk}
use Rattle.std.proofs.lemmas.Bool.{both_ways}
use Rattle.tv_model.specs.Program.{ProgramForm, program_of}
use Rattle.tv_model.specs.declared.program.Program.{Program}
use Rattle.tv_source.specs.Copies.{source_of}
use Rattle.tv_source.specs.Forms.{SourceForm}
use Rattle.tv_plang_laws.specs.Compiled.{compiled}
use Rattle.tv_plang_laws.specs.Laws.{NullsAreToldBy}
use Rattle.tv_plang.specs.declared.whole.CompileError.{CompileError}
use Rattle.tv_plang.proofs.Small.{few-from_small, statements-from_small}
use Rattle.tv_plang.proofs.whole.compile.Goals as goal
use Rattle.tv_plang.proofs.whole.compile.Goals.{then-not-has_few_predicates-via-then-not-has_few_predicates}
use Rattle.tv_plang.proofs.whole.compile.Goals.{then-not-has_few_predicates-via-else-not-has_few_predicates+then-last-gt16384}

pub returns-then-not-has_few_predicates-clause-too_many : goal.returns-then-not-has_few_predicates-clause-too_many
returns-then-not-has_few_predicates-clause-too_many c = λ e small.
    elim c.then-not-has_few_predicates.branch [
      | then-not-has_few_predicates-via-then-not-has_few_predicates w ↦
          both_ways c.has_few_predicates.result w.if-not-has_few_predicates.true
          (c.has_few_predicates.ensures.1 (few-from_small (source_of c.args.source.now) small))
      | then-not-has_few_predicates-via-else-not-has_few_predicates+then-last-gt16384 w ↦
          omega (
            arith,
            w.if-last-gt16384.true,
            c.size_of_block-last.ensures,
            statements-from_small (source_of c.args.source.now) small,
          )
    ]

-- what is told of the compiled program is told of the one that is given
nulls-told : (s : SourceForm) (result : Result Program CompileError) → IfOk result (λ p. program_of p ≡ compiled s) → NullsAreToldBy (compiled s) s
    → IfOk result (λ p. NullsAreToldBy (program_of p) s)
nulls-told s (Ok p) same told = let Tells : ProgramForm → Type 0 = λ q. NullsAreToldBy q s in subst Tells (sym same) told
nulls-told s (Err e) same told = tt

pub returns-clause-nulls : goal.returns-clause-nulls
returns-clause-nulls c =
    nulls-told (source_of c.args.source.now) c.built.result c.built.ensures.program
    (c.nulls_are_told.ensures (source_of c.args.source.now) c.requires.source)
