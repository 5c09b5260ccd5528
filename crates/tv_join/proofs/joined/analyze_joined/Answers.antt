use Rattle.std.proofs.Common.{refl, subst, List, arith}
use Rattle.std.proofs.lemmas.Result.{err_from_is_err_and}
use Rattle.tv_model.specs.Program.{program_of}
use Rattle.tv_structure_form.specs.StructureForm.{StructureForm}
use Rattle.tv_work.specs.Task.{TaskForm}
use Rattle.tv_join.specs.Joined.{IsJoinCause}
use Rattle.tv_join.specs.Stepped.{IsAtLastRound}
use Rattle.tv_join.proofs.Answering.{answer-closed, answer-exact, answer-over, answer-runs}
use Rattle.tv_join.proofs.joined.analyze_joined.Goals as goal

pub returns-in_err-ended-clause-cause : goal.returns-in_err-ended-clause-cause
returns-in_err-ended-clause-cause c =
    let p = err_from_is_err_and c.from_residual-in_err-ended.result c.from_residual-in_err-ended.ensures.1
    in rw (p.1, p.2)
    (subst (λ (ss : List StructureForm).
    IsJoinCause (program_of c.args.program.now) c.args.mode ss c.args.max c.in_err-ended.field-0.0) c.as_slice.ensures
    c.in_err-ended.ensures.cause)

pub answer-requires-clause-few : goal.answer-requires-clause-few
answer-requires-clause-few c = omega (arith, c.in_ok-ended.ensures.last.at.kept.nodes, c.requires.valid.node_count)

pub answer-requires-clause-edges : goal.answer-requires-clause-edges
answer-requires-clause-edges c = omega (arith, c.in_ok-ended.ensures.last.stepped.said.edges, c.requires.valid.edge_count)

pub returns : goal.returns
returns c =
    let valid = c.requires.valid
    in let task : List StructureForm → TaskForm = λ initial. record {
      program = program_of c.args.program.now;
      mode = c.args.mode;
      initial = initial;
      max = c.args.max;
    }
    in let t : TaskForm = task c.args.initial.now
    in let ended = c.in_ok-ended.ended
    in let answer = c.in_ok-answer.field-0
    in let lines = c.in_ok-answer.ensures.messages
    in let sorted = c.in_ok-answer.ensures.listing
    in let last : IsAtLastRound t ended.joins ended.told
    = subst (λ (ss : List StructureForm). IsAtLastRound (task ss) ended.joins ended.told) c.as_slice.ensures
    c.in_ok-ended.ensures.last
    in record {
      exact = answer-exact t valid ended.joins ended.told last answer.listing sorted answer.messages lines;
      over = answer-over t valid ended.joins ended.told last answer.listing sorted answer.messages lines c.args.program.now refl;
      maps = c.in_ok-answer.ensures.maps;
      closed = answer-closed t valid ended.joins ended.told last answer.listing sorted answer.messages lines;
      runs = answer-runs t valid ended.joins ended.told last answer.listing sorted answer.messages lines;
      cause = tt;
    }
