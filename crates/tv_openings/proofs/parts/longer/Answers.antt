use Rattle.std.proofs.Common.{◌≡◌, ◌∙◌, ◌+◌, List, [], ℕ, get_or, sym, subst}
use Rattle.std.proofs.lemmas.List.{get_or_default}
use Rattle.tv_openings.specs.Parts.{HavePlace}
use Rattle.tv_openings.proofs.PartLaws.{longer_step, longer_all, pushed_each}
use Rattle.tv_openings.proofs.parts.longer.Goals as goal

pub loop-parts-preserved : goal.loop-parts-preserved
loop-parts-preserved c =
    let s = c.args.s.now
    in let lists : List (List ℕ) = c.args.lists.now
    in let parts : List ℕ = c.parts-item.result
    in let k : ℕ = c.loop-parts.parts-index
    in let there : get_or lists k [] ≡ c.parts-item.result
    = get_or_default lists k [] c.parts-item.result c.loop-parts-test.true ∙ sym c.parts-item.is
    in longer_step s c.args.cells c.args.u lists k c.parts-item.result c.loop-parts.longer.items
    c.push_each.new.lists.items
    there c.requires.can.0
    (subst (HavePlace s c.args.cells (c.args.u + 1)) there (c.requires.all.each k [] c.loop-parts-test.true))
    c.loop-parts.invariant
    (pushed_each s c.args.cells c.args.u c.parts-item.result c.as_slice.result.now c.as_slice-in-loop-parts.result.now
    c.most_copies-most.result c.loop-parts.longer.items c.push_each.new.lists.items
    c.as_slice.ensures c.as_slice-in-loop-parts.ensures c.most_copies-most.ensures c.in_ok-push_each.ensures)

pub returns : goal.returns
returns c =
    longer_all c.args.s.now c.args.cells c.args.u c.args.lists.now c.loop-parts.parts-index c.loop-parts.longer.items
    c.requires.can.0 c.loop-parts-test.false c.requires.all c.loop-parts.invariant
