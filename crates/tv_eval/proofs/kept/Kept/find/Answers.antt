use Rattle.std.proofs.Common.{arith}
use Rattle.tv_model.specs.Form.{form_of}
use Rattle.tv_eval.proofs.Keeping.{found_is_held}
use Rattle.tv_eval.proofs.kept.Kept.find.Goals as goal

pub returns-else-k-rooms-clause-held : goal.returns-else-k-rooms-clause-held
returns-else-k-rooms-clause-held c = λ s a keeps.
    found_is_held s a c.args.self.now c.args.rooms.now c.in-Some.k c.args.edges.left.0 c.args.edges.right.0
    (form_of c.args.edges.body.now) _ keeps c.in-Some.ensures.some.1 (omega arith) c.index-rooms-k.is

pub returns-in-None-clause-none : goal.returns-in-None-clause-none
returns-in-None-clause-none c = λ k low lt. c.in-None.ensures.none k (omega arith)
