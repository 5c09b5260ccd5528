use Rattle.std.proofs.Common.{◌≡◌, ◌∙◌, ◌+◌, ◌++◌, ◌∷◌, [], List, ap, subst, sym, take}
use Rattle.std.proofs.lemmas.List.{take_all, take_more}
use Rattle.tv_structure_form.specs.StructureForm.{StructureForm}
use Rattle.tv_join.specs.Stepped.{AreOpenings}
use Rattle.tv_work.specs.Task.{task_of}
use Rattle.tv_join.proofs.Following.{openings-none, openings-more}
use Rattle.tv_join.proofs.follow.openings.Goals as goal

pub loop-s-init : goal.loop-s-init
loop-s-init c = record {
  found = subst (AreOpenings (task_of c.args.x.now) []) (sym c.new-found.ensures.items) (openings-none (task_of c.args.x.now));
  same = cc;
}

pub loop-s-preserved : goal.loop-s-preserved
loop-s-preserved c =
    let t = task_of c.args.x.now
    in let xs : List StructureForm = c.args.x.now.initial.now
    in let s = c.s-item.result
    in let more : take (c.loop-s.s-index + 1) xs ≡ take c.loop-s.s-index xs ++ s ∷ []
    = take_more xs c.loop-s.s-index s c.loop-s-test.true
    ∙ ap (λ (r : StructureForm). take c.loop-s.s-index xs ++ r ∷ []) (sym c.s-item.is)
    in record {
      found = subst (λ ys. AreOpenings t ys c.open.new.found.items) (sym more)
          (openings-more t (take c.loop-s.s-index xs) s c.loop-s.found.items c.open.new.found.items c.loop-s.invariant.found
          c.in_ok-open.ensures.openable c.in_ok-open.ensures.found);
      same = cc;
    }

pub returns-clause-found : goal.returns-clause-found
returns-clause-found c =
    subst (λ ys. AreOpenings (task_of c.args.x.now) ys c.loop-s.found.items)
    (take_all c.loop-s.s-index c.args.x.now.initial.now c.loop-s-test.false) c.loop-s.invariant.found
