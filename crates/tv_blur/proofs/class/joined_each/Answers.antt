use Rattle.std.proofs.Common.{ℕ, ◌≡◌, ◌<◌, ◌∙◌, ◌∷◌, ◌+◌, List, get_or, length, ap, sym, subst, arith}
use Rattle.tv_kleene.specs.declared.K3.TheVariants.{No}
use Rattle.tv_kleene.specs.declared.K3.{K3}
use Rattle.tv_blur.specs.Merged.{IsJoin}
use Rattle.tv_blur.specs.Classes.{IsAmongFirst}
use Rattle.tv_blur.proofs.JoinLaws.{behind, join_first, join_next, join_members, join_is}
use Rattle.tv_blur.proofs.class.joined_each.Goals as goal

pub loop-i-init : goal.loop-i-init
loop-i-init c =
    join_first (λ i j. get_or c.args.row.now (get_or (c.args.first ∷ c.args.others.now) i 0) No ≡ j) c.get-k.result
    (join_is _ c.get-k.result c.get-k.ensures)

pub get-requires : goal.get-requires
get-requires c =
    subst (λ u. u < length c.args.row.now) (behind c.args.first c.args.others.now c.loop-i.i)
    (c.requires (c.loop-i.i + 1) 0 (omega arith))

pub loop-i-preserved : goal.loop-i-preserved
loop-i-preserved c =
    let members : List ℕ = c.args.first ∷ c.args.others.now
    in rw (c.join-k.ensures.value)
    (join_next (λ i j. get_or c.args.row.now (get_or members i 0) No ≡ j) (c.loop-i.i + 1) c.loop-i.k c.get.result c.loop-i.invariant
    (join_is (get_or c.args.row.now (get_or members (c.loop-i.i + 1) 0) No) c.get.result
    (c.get.ensures ∙ ap (λ u. get_or c.args.row.now u No) (sym (behind c.args.first c.args.others.now c.loop-i.i)))))

pub returns : goal.returns
returns c =
    let members : List ℕ = c.args.first ∷ c.args.others.now
    in let values : ℕ → K3 → Type 0 = λ u j. get_or c.args.row.now u No ≡ j
    in let all : c.loop-i.i + 1 ≡ length members = omega arith
    in let Joins : ℕ → Type 0 = λ n. IsJoin (IsAmongFirst (λ i. values (get_or members i 0)) n) c.loop-i.k
    in join_members values members c.loop-i.k (subst Joins all c.loop-i.invariant)
