use Rattle.std.proofs.Common.{◌≡◌, ◌<◌, ◌+◌, ◌++◌, ◌∷◌, ◌∙◌, [], ap, arith, length, get_or, set, subst, sym}
use Rattle.std.proofs.Common.{List}
use Rattle.std.proofs.lemmas.List.{get_or_default}
use Rattle.tv_model.specs.declared.program.Edge.{Edge}
use Rattle.tv_work.proofs.Leaves.{AreLeavingTo, leaving-next, leaving-all}
use Rattle.tv_work.proofs.leaving.leaving_edges.Goals as goal

pub loop-number-preserved : goal.loop-number-preserved
loop-number-preserved c =
    let edges : List Edge = c.args.program.now.edges
    in let number = c.loop-number.number
    in let lists = c.loop-number.lists.items
    in let d : Edge = record { from = 0; action = 0; to = 0 }
    in let taken : Edge = get_or edges number d
    in let within = subst (λ (xs : List Edge). number < length xs) c.as_slice-edge-items.ensures
    c.loop-number-test.true
    in let put : c.put.new.lists.items ≡ set lists taken.from (get_or lists taken.from [] ++ number ∷ [])
    = c.in_ok-put.ensures
    ∙ ap (λ (xs : List Edge). set lists (get_or xs number d).from
    (get_or lists (get_or xs number d).from [] ++ number ∷ []))
    c.as_slice-edge-items.ensures
    in let source : taken.from < length lists
    = omega (arith, (c.requires.valid.edges number d within).0, c.loop-number.invariant.count)
    in subst (AreLeavingTo edges (length c.args.program.now.nodes) (number + 1)) (sym put)
    (leaving-next edges lists number taken within (get_or_default edges number d taken within) source
    (length c.args.program.now.nodes) c.loop-number.invariant)

pub returns : goal.returns
returns c =
    leaving-all c.args.program.now.edges (length c.args.program.now.nodes) c.loop-number.number
    c.loop-number.lists.items
    c.loop-number.invariant (omega (arith, c.loop-number-test.false, ap length c.as_slice-edge-items.ensures))
