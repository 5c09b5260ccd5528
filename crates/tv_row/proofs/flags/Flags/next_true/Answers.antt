use Rattle.std.proofs.Common.{◌/◌, ◌∙◌, Bool, List, false, get_or, ap, sym, refl, ⊎_elim, arith}
use Rattle.std.proofs.lemmas.Bool.{cases_lt}
use Rattle.std.proofs.lemmas.List.{get_or_read}
use Rattle.tv_row.proofs.FlagLaws.{flag_false, flag_past, found_below, found_from}
use Rattle.tv_row.proofs.flags.Flags.next_true.Goals as goal

pub returns-in-Some-clause-first : goal.returns-in-Some-clause-first
returns-in-Some-clause-first c =
    rw (← c.self.view_is)
    (found_below c.self.inside.words.items c.self.inside.count c.args.from c.loop-at.at c.in-Some.bit _ c.index.result.now
    c.number_below.result
    (get_or_read c.self.inside.words.items (c.loop-at.at / 64) c.index.result.now (omega (arith, c.self.invariant.room)) c.index.ensures 0)
    refl c.loop-at.invariant.0 c.loop-at.invariant.1 c.in-Some.ensures c.number_below.ensures)

pub returns-in-Some-clause-from : goal.returns-in-Some-clause-from
returns-in-Some-clause-from c =
    found_from c.self.inside.count c.args.from c.loop-at.at c.in-Some.bit _ c.number_below.result refl c.loop-at.invariant.0
    c.in-Some.ensures.0 c.number_below.ensures

pub returns-clause-first : goal.returns-clause-first
returns-clause-first c =
    λ n le.
    ap (λ (flags : List Bool). get_or flags n false) (sym c.self.view_is)
    ∙ ⊎_elim
    (λ lt. flag_false c.self.inside.words.items c.self.inside.count n (c.loop-at.invariant.1 n le (omega arith)))
    (λ past. flag_past c.self.inside.words.items c.self.inside.count n past)
    (cases_lt n c.self.inside.count)
