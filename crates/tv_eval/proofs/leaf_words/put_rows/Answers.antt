use Rattle.std.proofs.Common.{ℕ, ◌≡◌, ◌<◌, ◌+◌, ◌∙◌, [], ◌∷◌, length, get_or, refl, arith}
use Rattle.tv_kleene.specs.declared.K3.{K3}
use Rattle.tv_row.specs.Places.{entry_in}
use Rattle.tv_structure_form.specs.StructureForm.{value_at}
use Rattle.tv_eval.proofs.AlongLaws.{rows_put}
use Rattle.tv_eval.proofs.leaf_words.put_rows.Goals as goal

pub loop-u-init : goal.loop-u-init
loop-u-init c = (refl, λ v lt. absurd (omega arith), λ v x lt lx. absurd (omega arith))

pub loop-u-preserved : goal.loop-u-preserved
loop-u-preserved c =
    let edge : ℕ → ℕ → K3 = λ x y. value_at c.args.s.now c.args.pred.0 (x ∷ y ∷ [])
    in let put : (length c.put_row.new.self ≡ length c.loop-u.relation)
    × ((v : ℕ) → v < c.loop-u.u + 1 → length (get_or c.put_row.new.self v []) ≡ c.args.s.now.size)
    × ((v x : ℕ) → v < c.loop-u.u + 1 → x < c.args.s.now.size → entry_in c.put_row.new.self v x ≡ edge v x) =
    rows_put c.loop-u.relation c.put_row.new.self c.args.s.now.size c.loop-u.u c.row.result edge
    (omega arith) (omega arith) c.row.ensures
    c.put_row.ensures c.loop-u.invariant.1 c.loop-u.invariant.2
    in (put.0 ∙ c.loop-u.invariant.0, put.1, put.2)
