use Rattle.std.proofs.Common.{◌≡◌, None, [], refl, subst, All}
use Rattle.std.specs.Prelude.{Contains}
use Rattle.std.proofs.lemmas.List.Elements.{All-head}
use Rattle.std.proofs.lemmas.Result.{on_ok_weaker, IfErr-weaker}
use Rattle.tv_structure_form.specs.StructureForm.{StructureForm}
use Rattle.tv_work.specs.Reach.{Point, IsListed}
use Rattle.tv_work.specs.Stopped.{IsMeetStop}
use Rattle.tv_work.proofs.Causes.{stop-on}
use Rattle.tv_work.proofs.Growing.{one-there, among-one}
use Rattle.tv_work.proofs.search.Search.meet_only.Goals as goal

pub meet-requires-clause-unmarked : goal.meet-requires-clause-unmarked
meet-requires-clause-unmarked c =
    All-head (λ (s : StructureForm). s.fresh ≡ None) c.only.result []
    (subst (All (λ (s : StructureForm). s.fresh ≡ None)) c.only.ensures c.requires.unmarked)

pub returns-clause-has : goal.returns-clause-has
returns-clause-has c =
    on_ok_weaker c.meet.result
    (λ listed s has. subst (λ u. IsListed c.meet.new.self.listing (record { node = c.args.node; structure = u }))
    (one-there c.args.found c.only.result s c.only.ensures has) listed)
    c.meet.ensures.has

pub returns-clause-only : goal.returns-clause-only
returns-clause-only c =
    on_ok_weaker c.meet.result
    (λ lists x h. among-one c.args.node c.args.found c.only.result c.args.self.now c.only.ensures x (lists x h))
    c.meet.ensures.only

pub returns-clause-cause : goal.returns-clause-cause
returns-clause-cause c =
    let P : Point → Type 0 = λ x. x ≡ record { node = c.args.node; structure = c.only.result }
    in let Q : Point → Type 0 = λ x. (x.node ≡ c.args.node) × Contains c.args.found x.structure
    in let old = c.args.self.now.listing
    in let new = c.meet.new.self.listing
    in IfErr-weaker c.meet.result (IsMeetStop c.args.max P old new) (IsMeetStop c.args.max Q old new)
    (stop-on c.args.max P Q old old new refl (λ x has. has)
    (among-one c.args.node c.args.found c.only.result c.args.self.now c.only.ensures))
    c.meet.ensures.cause
