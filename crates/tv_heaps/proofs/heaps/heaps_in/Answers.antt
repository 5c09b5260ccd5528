use Rattle.tv_heaps.specs.Listed.{wish_of}
use Rattle.tv_heaps.proofs.JudgedLaws.{over_program}
use Rattle.tv_heaps.proofs.ListedLaws.{begun}
use Rattle.tv_heaps.proofs.heaps.heaps_in.Goals as goal

pub look_at_all-requires-clause-under_way : goal.look_at_all-requires-clause-under_way
look_at_all-requires-clause-under_way c =
    begun (wish_of c.args.book.now (record { above = c.args.s; cells = c.args.cells }))
    (record { waiting = c.in_ok-waiting.waiting; found = c.new-found.result })
    (over_program c.args.book.now c.args.s.now c.requires.over) c.in_ok-waiting.ensures c.new-found.ensures
