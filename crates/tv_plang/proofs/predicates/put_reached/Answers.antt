use Rattle.std.proofs.Common.{◌∙◌, map, ap}
use Rattle.std.proofs.lemmas.List.{map_push}
use Rattle.tv_model.specs.Program.{pred_of}
use Rattle.tv_source.specs.Copies.{source_of}
use Rattle.tv_plang_laws.specs.Compiled.{reach_pred}
use Rattle.tv_plang.proofs.Ranges.{mapped_more}
use Rattle.tv_plang.proofs.predicates.put_reached.Goals as goal

pub loop-x-preserved : goal.loop-x-preserved
loop-x-preserved c =
    mapped_more (reach_pred (source_of c.args.source.now) c.args.f) c.loop-x.x (map pred_of c.args.out.now.items)
    (map pred_of c.loop-x.out.items) (map pred_of c.push.new.self.items) (pred_of c.in_ok-reach_predicate.field-0)
    c.loop-x.invariant c.in_ok-reach_predicate.ensures
    (ap (map pred_of) c.in_ok-push.ensures.items ∙ map_push pred_of c.loop-x.out.items c.in_ok-reach_predicate.field-0)
