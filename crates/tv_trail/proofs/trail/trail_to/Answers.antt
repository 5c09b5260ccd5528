use Rattle.std.proofs.Common.{◌≡◌, ◌∷◌, ◌++◌, ◌∙◌, [], List, Some, ap, reverse, subst, sym}
use Rattle.std.specs.Prelude.{All, slice_get}
use Rattle.std.proofs.lemmas.List.Elements.{All-push}
use Rattle.std.proofs.lemmas.List.Sorted.{All-permutation}
use Rattle.tv_structure_form.specs.StructureForm.{StructureForm, IsStructure, IsOver}
use Rattle.tv_work.specs.Reach.{Point}
use Rattle.tv_trail_laws.specs.declared.trail.Link.{Link}
use Rattle.tv_trail_laws.specs.declared.trail.Origin.{Origin}
use Rattle.tv_trail_laws.specs.Met.{IsTrailFrom}
use Rattle.tv_trail_laws.proofs.Walking.{ComesFrom, comes-next, comes-trail, goes-back}
use Rattle.tv_work.specs.Task.{task_of}
use Rattle.tv_trail.proofs.Kept.{are-traced, at-settled}
use Rattle.tv_trail.proofs.Walking.{settled-over}
use Rattle.tv_trail.proofs.trail.trail_to.Goals as goal

pub loop-links-smaller : goal.loop-links-smaller
loop-links-smaller c =
    let t = task_of c.args.x.now
    in let s = c.args.search.now
    in let z : Point = record { node = c.at-seen.result.node; structure = c.at-seen.result.structure.now }
    in let e = subst (λ (o : Origin). slice_get s.found c.loop-links.last ≡ Some (record { point = z; origin = o }))
    c.in-Step.is c.at-seen.ensures.found
    in goes-back t s.found (are-traced t s c.requires.kept) c.args.place c.loop-links.last c.loop-links.links.items
    c.loop-links.invariant.comes z c.in-Step.before c.in-Step.edge e

pub loop-links-preserved : goal.loop-links-preserved
loop-links-preserved c =
    let t = task_of c.args.x.now
    in let s = c.args.search.now
    in let kept = c.requires.kept
    in let links = c.loop-links.links.items
    in let z : Point = record { node = c.at-seen.result.node; structure = c.at-seen.result.structure.now }
    in let e = subst (λ (o : Origin). slice_get s.found c.loop-links.last ≡ Some (record { point = z; origin = o }))
    c.in-Step.is c.at-seen.ensures.found
    in let same : c.in_ok-structure.structure ≡ z.structure = c.in_ok-structure.ensures.value
    in let link : StructureForm → Link = λ u. record { edge = c.in-Step.edge; structure = u }
    in let more : c.push.new.self.items ≡ links ++ link z.structure ∷ []
    = c.in_ok-push-in-Step.ensures.items ∙ ap (λ (u : StructureForm). links ++ link u ∷ []) same
    in let Over : Link → Type 0
    = λ l. IsStructure l.structure × IsOver c.args.x.now.program.now.vocab l.structure
    in let settled = at-settled t s kept c.loop-links.last z (c.at-seen.result.origin, c.at-seen.ensures.found)
    in record {
      comes = subst (ComesFrom t s.found c.args.place c.in-Step.before) (sym more)
          (comes-next t s.found (are-traced t s kept) c.args.place c.loop-links.last links
          c.loop-links.invariant.comes z c.in-Step.before c.in-Step.edge e);
      over = subst (All Over) (sym more)
          (All-push Over links (link z.structure) c.loop-links.invariant.over
          (settled-over c.args.x.now.program.now z.structure settled));
    }

pub returns-in-Initial-clause-trail : goal.returns-in-Initial-clause-trail
returns-in-Initial-clause-trail c =
    let t = task_of c.args.x.now
    in let s = c.args.search.now
    in let links = c.loop-links.links.items
    in let number = c.in-Initial.initial
    in let z : Point = record { node = c.at-seen.result.node; structure = c.at-seen.result.structure.now }
    in let e = subst (λ (o : Origin). slice_get s.found c.loop-links.last ≡ Some (record { point = z; origin = o }))
    c.in-Initial.is c.at-seen.ensures.found
    in let back : c.from_vec.result ≡ reverse links = c.from_vec.ensures ∙ c.reverse.ensures.items
    in subst (λ (ls : List Link). IsTrailFrom t s.found c.args.place
    (record { initial = number; opening = c.in_ok-structure.structure; links = ls })) (sym back)
    (subst (λ (u : StructureForm). IsTrailFrom t s.found c.args.place
    (record { initial = number; opening = u; links = reverse links })) (sym c.in_ok-structure.ensures.value)
    (comes-trail t s.found (are-traced t s c.requires.kept) c.args.place c.loop-links.last links
    c.loop-links.invariant.comes z number e))

pub returns-in-Initial-clause-over : goal.returns-in-Initial-clause-over
returns-in-Initial-clause-over c =
    let t = task_of c.args.x.now
    in let s = c.args.search.now
    in let links = c.loop-links.links.items
    in let program = c.args.x.now.program.now
    in let z : Point = record { node = c.at-seen.result.node; structure = c.at-seen.result.structure.now }
    in let Over : Link → Type 0 = λ l. IsStructure l.structure × IsOver program.vocab l.structure
    in let settled = at-settled t s c.requires.kept c.loop-links.last z
    (c.at-seen.result.origin, c.at-seen.ensures.found)
    in record {
      opening = subst (λ (u : StructureForm). IsStructure u × IsOver program.vocab u)
          (sym c.in_ok-structure.ensures.value) (settled-over program z.structure settled);
      links = subst (All Over) (sym c.from_vec.ensures)
          (All-permutation Over links c.reverse.new.self.items c.reverse.ensures.permutation
          c.loop-links.invariant.over);
    }
