use Rattle.std.proofs.Common.{ℕ, ◌-◌, ◌∙◌, arith}
use Rattle.tv_kleene.specs.declared.K3.{K3}
use Rattle.tv_row.specs.Places.{entry_in}
use Rattle.tv_quantifiers.proofs.RowLaws.{best-further}
use Rattle.tv_quantifiers.proofs.relation.Relation.close.Goals as goal

pub loop-first-preserved : goal.loop-first-preserved
loop-first-preserved c =
    let edge : ℕ → ℕ → K3 = entry_in c.args.self.now
    in let old : ℕ → ℕ → K3 = entry_in c.loop-first.self
    in let new : ℕ → ℕ → K3 = entry_in c.allow.new.self
    in (
      c.allow.ensures.size ∙ c.loop-first.invariant.0,
      omega arith,
      best-further edge old new c.args.size (c.loop-first.first - 1) c.loop-first.first (omega arith) (omega arith)
          c.loop-first.invariant.2 c.allow.ensures.value,
      c.allow.ensures.square,
    )
