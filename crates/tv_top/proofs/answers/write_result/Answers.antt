use Rattle.std.proofs.Common.{rules, ◌≡◌, ◌++◌}
use Rattle.std.specs.Prelude.{codes, decimal}
use Rattle.std.proofs.lemmas.Result.{IfOk-equal}
use Rattle.tv_top.proofs.Sums.{behind_pair}
use Rattle.tv_top.proofs.answers.write_result.Goals as goal

pub returns : goal.returns
returns c =
    let pair : c.write_pair.new.out.items
    ≡ c.args.out.now.items ++ (codes "edge " ++ (decimal c.args.edge ++ (codes " structure " ++ decimal c.args.structure)))
    = search rules in
    IfOk-equal c.write_labeled.result _ _ _ c.write_labeled.ensures
    (behind_pair c.args.out.now.items _ (codes "edge ") (decimal c.args.edge) (codes " structure ") (decimal c.args.structure) _ pair)
