use Rattle.std.proofs.Common.{◌/◌, refl, arith}
use Rattle.std.proofs.lemmas.List.{get_or_read}
use Rattle.tv_row.proofs.FlagLaws.{other_found}
use Rattle.tv_row.proofs.flags.Flags.next_other.Goals as goal

pub returns-in-Some : goal.returns-in-Some
returns-in-Some c =
    rw (← c.self.view_is)
    (other_found c.self.inside.words.items c.self.inside.count c.loop-at.at c.in-Some.bit _ c.index.result.now _
    c.number_below.result
    (get_or_read c.self.inside.words.items (c.loop-at.at / 64) c.index.result.now (omega (arith, c.self.invariant.room, c.loop-at-test.true)) c.index.ensures 0)
    refl c.in-Some.ensures.1 c.in-Some.ensures.2 c.number_below.ensures)
