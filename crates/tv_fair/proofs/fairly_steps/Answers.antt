-- With and without a further individual.
use Rattle.tv_model.specs.Program.{action_of, program_of}
use Rattle.tv_concrete.specs.Lists.{assignment_of, heap_of}
use Rattle.tv_fair.proofs.Fresh.{old-answer, candidates-answer}
use Rattle.tv_fair.proofs.fairly_steps.Goals as goal

pub returns-then-not-acting : goal.returns-then-not-acting
returns-then-not-acting c =
    old-answer (program_of c.args.acting.now.program.now) c.args.acting.now.mode
    (action_of c.args.acting.now.action.now) (assignment_of c.args.ends.now.picked) (heap_of c.args.ends.now.old.now)
    (heap_of c.args.ends.now.new.now) (cc) c.is_fair_over.result c.is_fair_over.ensures

pub returns : goal.returns
returns c =
    candidates-answer (program_of c.args.acting.now.program.now) c.args.acting.now.mode
    (action_of c.args.acting.now.action.now)
    (assignment_of c.args.ends.now.picked) (heap_of c.args.ends.now.old.now)
    (heap_of c.args.ends.now.new.now) c.as_slice.result.now c.in_ok-candidates.candidates.items (cc)
    (cc) c.in_ok-candidates.ensures c.fits_some.result c.fits_some.ensures
