use Rattle.std.proofs.Common.{◌≡◌, ◌<◌, ◌^◌, All, List, [], length, ap, subst, sym, arith}
use Rattle.std.specs.Prelude.{IfOk, IfSome, IfNone}
use Rattle.tv_structure_form.specs.StructureForm.{StructureForm, arities_of}
use Rattle.tv_cover.specs.Covers.{IsFirstCover}
use Rattle.tv_step_laws.specs.Closed.{IsCovered}
use Rattle.tv_judge.proofs.Reports.{listed-alike, targets-at}
use Rattle.tv_judge.proofs.items.first_cover.Goals as goal

pub bounds-x-node : goal.bounds-x-node
bounds-x-node c = omega (arith, c.requires.node, ap length c.requires.ready.targets)

pub first_cover-requires-clause-vocabulary : goal.first_cover-requires-clause-vocabulary
first_cover-requires-clause-vocabulary c =
    let listing = c.args.x.now.analysis.now.listing
    in subst (λ ts. All (λ t. arities_of c.args.s.now ≡ arities_of t) ts)
    (sym (targets-at c.args.x.now.targets.now listing c.args.node c.index-x-node.result c.requires.ready.targets c.requires.node))
    (listed-alike c.args.x.now.program.now listing c.args.node (arities_of c.args.s.now) c.requires.ready.listing
    c.requires.node c.requires.over)

pub first_cover-requires-clause-few : goal.first_cover-requires-clause-few
first_cover-requires-clause-few c =
    let listing = c.args.x.now.analysis.now.listing
    in subst (λ (ts : List StructureForm). length ts < 2 ^ 32)
    (sym (targets-at c.args.x.now.targets.now listing c.args.node c.index-x-node.result c.requires.ready.targets c.requires.node))
    (c.requires.ready.listing.counts c.args.node [] c.requires.node)

pub returns-clause-some : goal.returns-clause-some
returns-clause-some c =
    let listing = c.args.x.now.analysis.now.listing
    in subst (λ ts. IfOk c.first_cover.result (λ found. IfSome found (λ y. IsFirstCover ts c.args.s.now y.0 y.1)))
    (targets-at c.args.x.now.targets.now listing c.args.node c.index-x-node.result c.requires.ready.targets c.requires.node)
    c.first_cover.ensures.some

pub returns-clause-none : goal.returns-clause-none
returns-clause-none c =
    let listing = c.args.x.now.analysis.now.listing
    in subst (λ ts. IfOk c.first_cover.result (λ found. IfNone found (¬ IsCovered ts c.args.s.now)))
    (targets-at c.args.x.now.targets.now listing c.args.node c.index-x-node.result c.requires.ready.targets c.requires.node)
    c.first_cover.ensures.none
