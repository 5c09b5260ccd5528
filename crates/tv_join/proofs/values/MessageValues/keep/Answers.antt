use Rattle.std.proofs.Common.{◌≡◌, ◌<◌, ◌∙◌, [], List, get_or, length, refl, set, subst, sym}
use Rattle.std.proofs.lemmas.List.{get_or_default}
use Rattle.tv_kleene.specs.declared.K3.{K3}
use Rattle.tv_join.specs.Values.{ChangesAlong, ChangesPlace}
use Rattle.tv_join.proofs.Keeping.{keep-here, keep-others}
use Rattle.tv_join.proofs.values.MessageValues.keep.Goals as goal

pub returns-clause-here : goal.returns-clause-here
returns-clause-here c =
    let rows : List (List (List K3)) = c.self.inside.rows.items
    in let within : c.args.edge < length rows
    = subst (λ (rs : List (List (List K3))). c.args.edge < length rs) (sym c.self.view_is) c.requires
    in keep-here rows (set rows c.args.edge c.put.new.self) c.args.edge c.args.place c.put.new.self c.args.values within refl
    c.in_ok-put.ensures.here

pub returns-clause-others : goal.returns-clause-others
returns-clause-others c =
    let rows : List (List (List K3)) = c.self.inside.rows.items
    in let row : List (List K3) = c.index_mut-row.result.now
    in let within : c.args.edge < length rows
    = subst (λ (rs : List (List (List K3))). c.args.edge < length rs) (sym c.self.view_is) c.requires
    in let read : row ≡ get_or rows c.args.edge []
    = c.index_mut-row.ensures.value ∙ get_or_default rows c.args.edge row [] within
    in subst (λ (rs : List (List (List K3))). ChangesAlong c.args.edge c.args.place rs (set rows c.args.edge c.put.new.self))
    c.self.view_is
    (keep-others rows (set rows c.args.edge c.put.new.self) c.args.edge c.args.place c.put.new.self c.args.values within refl
    (subst (λ (r : List (List K3)). ChangesPlace c.args.place r c.put.new.self) read c.in_ok-put.ensures.others))
