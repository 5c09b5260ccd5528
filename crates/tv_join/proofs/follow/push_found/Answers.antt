use Rattle.std.proofs.Common.{◌≡◌, ◌∙◌, Contains, rules, sym, subst}
use Rattle.std.proofs.lemmas.Iterator.Adapters.{YieldsList-from_vec}
use Rattle.std.proofs.lemmas.Iterator.Consumers.{YieldsList-end}
use Rattle.std.proofs.lemmas.List.{map-id}
use Rattle.tv_work.specs.Reach.{Point}
use Rattle.tv_join.specs.Stepped.{Finds}
use Rattle.tv_join.proofs.Following.{finds-start, finds-next}
use Rattle.tv_join.proofs.follow.push_found.Goals as goal

pub loop-structure-init : goal.loop-structure-init
loop-structure-init c = finds-start c.args.node c.args.found.now.items

pub loop-structure-preserved : goal.loop-structure-preserved
loop-structure-preserved c =
    finds-next c.args.node c.loop-structure.yielded c.in-Some.structure c.args.found.now.items c.loop-structure.found.items
    c.push.new.self.items c.loop-structure.invariant c.in_ok-push.ensures.items

pub returns : goal.returns
returns c =
    let all = YieldsList-end
    (YieldsList-from_vec {s = c.into_iter-structure-iterator.result} c.args.structures (search rules) (search rules))
    c.loop-structure.yielded c.loop-structure.structure-iterator c.loop-structure.yielded_by c.next.result c.next.new.self
    c.in-None.is c.next.ensures.steps
    in subst (λ structures. Finds (λ (x : Point). (x.node ≡ c.args.node) × Contains structures x.structure)
    c.args.found.now.items c.loop-structure.found.items) (sym (map-id c.loop-structure.yielded) ∙ all.0) c.loop-structure.invariant
