-- By the two values that an individual may count as.
use Rattle.std.proofs.Common.{◌≡◌, ap, arith, get_or, sym, ◌∙◌}
use Rattle.tv_kleene.specs.declared.K3.TheVariants.{No, Half}
use Rattle.tv_row.specs.Bits.{yes_unless_no}
use Rattle.tv_row.proofs.WordOps.{get_or-paired}
use Rattle.tv_coerce.specs.Counting.{counted}
use Rattle.tv_coerce.proofs.Counts.{counted-yes, sure-half, sure-yes}
use Rattle.tv_coerce.proofs.Walking.{counted-with}
use Rattle.tv_coerce.proofs.places.begun_with.Goals as goal

pub returns-then-is_no-clause-long : goal.returns-then-is_no-clause-long
returns-then-is_no-clause-long c = (counted-with c.args.tail Half c.args.halved c.requires.long.0 c.requires.halved).0

pub returns-then-is_no-clause-each : goal.returns-then-is_no-clause-each
returns-then-is_no-clause-each c = λ j low.
    let own = get_or c.args.own c.args.i No
    in let here : get_or c.args.sure c.args.i No ≡ yes_unless_no own own
    = ap (λ w. get_or w c.args.i No) c.requires.sure
    ∙ get_or-paired yes_unless_no c.args.own c.args.own c.args.i (omega (arith, c.requires.i, c.requires.long.1))
    (omega (arith, c.requires.i, c.requires.long.1))
    in (counted-with c.args.tail Half c.args.halved c.requires.long.0 c.requires.halved).1 j low
    ∙ ap (counted (get_or c.args.tail j No))
    (sym (sure-half own c.requires.some (sym here ∙ sym c.get.ensures ∙ c.if-is_no.ensures)))

pub returns-else-is_no-clause-each : goal.returns-else-is_no-clause-each
returns-else-is_no-clause-each c = λ j low.
    let own = get_or c.args.own c.args.i No
    in let here : get_or c.args.sure c.args.i No ≡ yes_unless_no own own
    = ap (λ w. get_or w c.args.i No) c.requires.sure
    ∙ get_or-paired yes_unless_no c.args.own c.args.own c.args.i (omega (arith, c.requires.i, c.requires.long.1))
    (omega (arith, c.requires.i, c.requires.long.1))
    in sym (ap (counted (get_or c.args.tail j No)) (sure-yes own (λ e. c.if-is_no.ensures (c.get.ensures ∙ here ∙ e)))
    ∙ counted-yes (get_or c.args.tail j No))
