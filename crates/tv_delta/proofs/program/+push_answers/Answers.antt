use Rattle.std.proofs.Common.{◌≡◌, ◌-◌, length, take, drop, arith}
use Rattle.std.proofs.lemmas.Grind.{common_steps}
use Rattle.tv_model.specs.Program.{program_of}
use Rattle.tv_delta.proofs.Pushed.{first_is, others_are}
use Rattle.tv_delta.proofs.program.+push_answers.Goals as goal

pub answer_at-requires-clause-kind : goal.answer_at-requires-clause-kind
answer_at-requires-clause-kind t c =
    (first_is (program_of c.args.a.now.program.now) c.args.preds.now c.pred-item.result
    (omega (arith, c.in-len1-up.len_at_least)) c.pred-item.is c.requires.preds).kind

pub push_answers-requires : goal.push_answers-requires
push_answers-requires t c =
    let preds = c.args.preds.now
    in let fewer : length (take (length preds - 1) (drop 1 preds)) ≡ length preds - 1 = grind (arith, common_steps)
    in (
      omega (arith, c.decreases, c.in-len1-up.len_at_least, fewer),
      (
        omega (arith, c.requires.count, c.in-len1-up.len_at_least, fewer),
        (
          c.requires.valid,
          (others_are (program_of c.args.a.now.program.now) preds c.requires.preds, c.in_ok-x-in-len1-up.ensures.known),
        ),
      ),
    )
