-- What holds of the enumerated tuples holds of all.
use Rattle.std.proofs.Common.{ℕ, ◌≡◌, ◌∙◌, List, ap, map}
use Rattle.tv_model.specs.Heap.{IsTuple}
use Rattle.tv_model.specs.Program.{KCore, kind_of, update_of}
use Rattle.tv_concrete.specs.Lists.{heap_of}
use Rattle.tv_concrete.specs.Steps.{FollowsIn}
use Rattle.tv_concrete.specs.Tuples.{tuples_of}
use Rattle.tv_concrete.proofs.Every.{under-premise}
use Rattle.tv_concrete.proofs.TupleLists.{tuples-answer}
use Rattle.tv_concrete.proofs.step.updates_one.Goals as goal

pub returns : goal.returns
returns c =
    let P : List ℕ → Type 0 = FollowsIn c.args.step.now c.args.q (map update_of c.args.updates.now)
    in let is : c.as_slice-2.result.now ≡ tuples_of c.args.step.now.new.now.individuals c.args.pred.now.arity =
    c.as_slice-2.ensures ∙ c.in_ok-all.ensures ∙ ap (λ xs. tuples_of xs c.args.pred.now.arity) c.as_slice.ensures
    in under-premise (kind_of c.args.pred.now.kind ≡ KCore)
    ((tuple : List ℕ) → IsTuple (heap_of c.args.step.now.new.now) c.args.pred.now.arity tuple → P tuple)
    c.follows_update_at_all.result (c.is_core.ensures.0 c.if-not-is_core.false)
    (tuples-answer P c.args.step.now.new.now.individuals c.args.pred.now.arity c.as_slice-2.result.now
    c.follows_update_at_all.result is c.follows_update_at_all.ensures)
