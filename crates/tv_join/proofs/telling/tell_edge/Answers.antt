use Rattle.std.proofs.Common.{◌≡◌, ◌<◌, ◌∙◌, List, ap, arith, get_or, length, sym}
use Rattle.std.proofs.lemmas.Option.{slice_get-get_or}
use Rattle.tv_model.specs.Program.{program_of}
use Rattle.tv_model.specs.declared.program.Edge.{Edge}
use Rattle.tv_join.specs.State.{IsAbsorbed, members_at}
use Rattle.tv_work.specs.Task.{task_of}
use Rattle.tv_join.proofs.Following.{edge-valid, source-is}
use Rattle.tv_join.proofs.Greatest.{kept-few, there-stands, to-all, to-next, to-none}
use Rattle.tv_join.proofs.telling.tell_edge.Goals as goal

no_edge : Edge
no_edge = record { from = 0; action = 0; to = 0 }

pub at_node-structures-requires : goal.at_node-structures-requires
at_node-structures-requires c =
    let edges : List Edge = (program_of c.args.x.now.program.now).edges
    in let taken : Edge = get_or edges c.args.edge no_edge
    in let at = slice_get-get_or edges c.args.edge no_edge c.requires.edge
    in omega (
      arith,
      c.requires.followed.1.nodes,
      source-is edges c.as_slice.result.now c.args.edge taken c.as_slice.ensures at,
      (edge-valid (program_of c.args.x.now.program.now) c.requires.followed.0 c.args.edge taken at).0,
    )

pub loop-place-init : goal.loop-place-init
loop-place-init c = to-none (task_of c.args.x.now) c.args.joins.now.nodes c.args.edge c.args.told.now c.requires.said

pub tell-requires-clause-edge : goal.tell-requires-clause-edge
tell-requires-clause-edge c = omega (arith, c.loop-place.invariant.said.edges, c.requires.edge)

pub tell-requires-clause-edges : goal.tell-requires-clause-edges
tell-requires-clause-edges c = c.requires.followed.2 ∙ sym c.loop-place.invariant.said.edges

pub tell-requires-clause-few : goal.tell-requires-clause-few
tell-requires-clause-few c =
    let t = task_of c.args.x.now
    in let nodes = c.args.joins.now.nodes
    in let edges : List Edge = (program_of c.args.x.now.program.now).edges
    in let taken : Edge = get_or edges c.args.edge no_edge
    in let is = slice_get-get_or edges c.args.edge no_edge c.requires.edge
    in let same : c.at_node-structures.result.now ≡ (members_at nodes taken.from).structures
    = c.at_node-structures.ensures
    ∙ ap (λ n. (members_at nodes n).structures)
    (source-is edges c.as_slice.result.now c.args.edge taken c.as_slice.ensures is)
    in let within : c.loop-place.place < length (members_at nodes taken.from).structures
    = omega (arith, c.loop-place-test.true, ap length same)
    in let s = there-stands nodes taken.from c.loop-place.place within
    in kept-few t c.requires.followed.0 nodes (IsAbsorbed (program_of c.args.x.now.program.now) nodes)
    c.args.values.now c.requires.followed.3
    c.args.edge taken is c.loop-place.place s.0 s.1

pub loop-place-preserved : goal.loop-place-preserved
loop-place-preserved c =
    let t = task_of c.args.x.now
    in let nodes = c.args.joins.now.nodes
    in let edges : List Edge = (program_of c.args.x.now.program.now).edges
    in let taken : Edge = get_or edges c.args.edge no_edge
    in let is = slice_get-get_or edges c.args.edge no_edge c.requires.edge
    in let same : c.at_node-structures.result.now ≡ (members_at nodes taken.from).structures
    = c.at_node-structures.ensures
    ∙ ap (λ n. (members_at nodes n).structures)
    (source-is edges c.as_slice.result.now c.args.edge taken c.as_slice.ensures is)
    in let within : c.loop-place.place < length (members_at nodes taken.from).structures
    = omega (arith, c.loop-place-test.true, ap length same)
    in let s = there-stands nodes taken.from c.loop-place.place within
    in to-next t c.requires.followed.0 nodes (IsAbsorbed (program_of c.args.x.now.program.now) nodes)
    c.args.values.now c.requires.followed.3
    c.args.edge taken is c.loop-place.place s.0 s.1 c.args.told.now c.loop-place.told c.tell.new.told
    c.loop-place.invariant
    c.in_ok-tell.ensures.noted c.in_ok-tell.ensures.count

pub returns-clause-said : goal.returns-clause-said
returns-clause-said c = c.loop-place.invariant.said

pub returns-clause-tells : goal.returns-clause-tells
returns-clause-tells c = c.loop-place.invariant.tells

pub returns-clause-told : goal.returns-clause-told
returns-clause-told c =
    to-all (task_of c.args.x.now) c.args.joins.now.nodes c.args.edge c.loop-place.place c.args.told.now
    c.loop-place.told
    c.loop-place.invariant (λ taken is.
    let edges : List Edge = (program_of c.args.x.now.program.now).edges
    in let nodes = c.args.joins.now.nodes
    in let same : c.at_node-structures.result.now ≡ (members_at nodes taken.from).structures
    = c.at_node-structures.ensures
    ∙ ap (λ n. (members_at nodes n).structures)
    (source-is edges c.as_slice.result.now c.args.edge taken c.as_slice.ensures is)
    in omega (arith, c.loop-place-test.false, ap length same))
