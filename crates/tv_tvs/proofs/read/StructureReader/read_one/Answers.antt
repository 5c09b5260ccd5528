use Rattle.std.proofs.Common.{◌≡◌, ◌-◌, ◌∙◌, Ok, ap, subst, drop, length, arith}
use Rattle.std.proofs.lemmas.Result.{err_from_is_err_and}
use Rattle.tv_lex.specs.Places.{StopsAtToken}
use Rattle.tv_lex.proofs.PlaceLemmas.{count_in_order}
use Rattle.tv_tvs.specs.Meaning.{structures_place, RefusesStructures, struct_meant}
use Rattle.tv_tvs.specs.Targets.{IsRead}
use Rattle.tv_tvs.specs.Views.{struct_tree}
use Rattle.tv_tvs.proofs.Answering.{none_here, refused_here, within, behind_at, read_here}
use Rattle.tv_tvs.proofs.Stops.{told_stops}
use Rattle.tv_tvs.proofs.read.StructureReader.read_one.Goals as goal

pub returns-in-Err-clause-fault : goal.returns-in-Err-clause-fault
returns-in-Err-clause-fault c =
    none_here c.args.self.now c.args.bytes.now c.args.tokens.now.list.items c.behind-here.result.now c.args.at
    (c.behind-here.ensures ∙ ap (drop c.args.at) c.as_slice-list.ensures.value) c.in-Err.fault c.refusal.result c.refusal.ensures.refused c.in-Err.ensures

pub returns-in_err-found-in-Ok-clause-fault : goal.returns-in_err-found-in-Ok-clause-fault
returns-in_err-found-in-Ok-clause-fault c =
    let p = err_from_is_err_and c.from_residual.result c.from_residual.ensures.1
    in rw (p.1, p.2)
    (refused_here c.args.self.now c.args.bytes.now c.args.tokens.now.list.items c.behind-here.result.now c.args.at
    (c.behind-here.ensures ∙ ap (drop c.args.at) c.as_slice-list.ensures.value) c.in-Ok.rest.now (struct_tree c.args.bytes.now c.in-Ok.tree) c.in-Ok.ensures
    c.in_err-found-in-Ok.field-0.0
    (subst (λ v. RefusesStructures c.in_err-found-in-Ok.field-0.0 (struct_meant v.preds (struct_tree c.args.bytes.now c.in-Ok.tree))) c.self.view_is c.in_err-found-in-Ok.ensures.meant))

pub count_before-next-requires-clause-end : goal.count_before-next-requires-clause-end
count_before-next-requires-clause-end c =
    rw c.as_slice-list.ensures.value
    (within c.args.self.now c.args.bytes.now c.args.tokens.now.list.items c.behind-here.result.now c.args.at
    (c.behind-here.ensures ∙ ap (drop c.args.at) c.as_slice-list.ensures.value) c.in-Ok.rest.now (struct_tree c.args.bytes.now c.in-Ok.tree) c.in-Ok.ensures)

pub count_before-next-requires-clause-size : goal.count_before-next-requires-clause-size
count_before-next-requires-clause-size c =
    let few = count_in_order 0 c.args.tokens.now.list.items (length c.args.bytes.now) c.requires.order
    in rw c.as_slice-list.ensures.value (omega (arith, few, c.requires.size))

pub returns-in_ok-found-in-Ok-clause-meant : goal.returns-in_ok-found-in-Ok-clause-meant
returns-in_ok-found-in-Ok-clause-meant c =
    read_here c.args.self.now c.args.bytes.now c.args.tokens.now.list.items c.behind-here.result.now c.args.at
    (c.behind-here.ensures ∙ ap (drop c.args.at) c.as_slice-list.ensures.value) c.in-Ok.rest.now (struct_tree c.args.bytes.now c.in-Ok.tree) c.in-Ok.ensures
    c.in_ok-found-in-Ok.found c.count_before-next.result (c.count_before-next.ensures ∙ ap (λ l. length l - length c.in-Ok.rest.now) c.as_slice-list.ensures.value)
    (subst (λ v. struct_meant v.preds (struct_tree c.args.bytes.now c.in-Ok.tree) ≡ Ok c.in_ok-found-in-Ok.found) c.self.view_is c.in_ok-found-in-Ok.ensures.meant)

pub returns-in_ok-found-in-Ok-clause-next : goal.returns-in_ok-found-in-Ok-clause-next
returns-in_ok-found-in-Ok-clause-next c =
    let count : c.count_before-next.result ≡ length c.args.tokens.now.list.items - length c.in-Ok.rest.now
    = c.count_before-next.ensures ∙ ap (λ l. length l - length c.in-Ok.rest.now) c.as_slice-list.ensures.value
    in let more = behind_at c.args.self.now c.args.bytes.now c.args.tokens.now.list.items c.behind-here.result.now c.args.at
    (c.behind-here.ensures ∙ ap (drop c.args.at) c.as_slice-list.ensures.value) c.in-Ok.rest.now (struct_tree c.args.bytes.now c.in-Ok.tree) c.in-Ok.ensures
    in (omega (arith, more, count), omega (arith, count))

pub returns-in_ok-found-in-Ok-clause-over : goal.returns-in_ok-found-in-Ok-clause-over
returns-in_ok-found-in-Ok-clause-over c =
    let one = subst (λ v. IsRead v c.in_ok-found-in-Ok.found) c.self.view_is c.in_ok-found-in-Ok.ensures.over
    in (one.over, one.fresh)

pub returns-in_ok-found-in-Ok-clause-kept : goal.returns-in_ok-found-in-Ok-clause-kept
returns-in_ok-found-in-Ok-clause-kept c = c.in_ok-found-in-Ok.ensures.over.structure

pub returns-in-Err-clause-place : goal.returns-in-Err-clause-place
returns-in-Err-clause-place c =
    subst (λ ts. StopsAtToken structures_place c.args.bytes.now ts c.refusal.result) c.as_slice-list.ensures.value c.refusal.ensures.place

pub returns-in_err-found-in-Ok-clause-place : goal.returns-in_err-found-in-Ok-clause-place
returns-in_err-found-in-Ok-clause-place c =
    let p = err_from_is_err_and c.from_residual.result c.from_residual.ensures.1
    in rw (p.1, p.2)
    (told_stops c.args.bytes.now c.args.tokens.now.list.items c.in_err-found-in-Ok.field-0.0 _ c.in_err-found-in-Ok.ensures.meant)
