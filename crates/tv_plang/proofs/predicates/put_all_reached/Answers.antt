use Rattle.std.proofs.Common.{map, length}
use Rattle.tv_model.specs.Program.{pred_of}
use Rattle.tv_source.specs.Copies.{source_of}
use Rattle.tv_plang_laws.specs.Compiled.{numbers_below, reach_pred}
use Rattle.tv_plang.proofs.Ranges.{flat_mapped_more}
use Rattle.tv_plang.proofs.predicates.put_all_reached.Goals as goal

pub loop-f-preserved : goal.loop-f-preserved
loop-f-preserved c =
    flat_mapped_more
    (λ f. map (reach_pred (source_of c.args.source.now) f) (numbers_below (length (source_of c.args.source.now).variables)))
    c.loop-f.f (map pred_of c.args.out.now.items) (map pred_of c.loop-f.out.items) (map pred_of c.put_reached.new.out.items)
    c.loop-f.invariant c.in_ok-put_reached.ensures
