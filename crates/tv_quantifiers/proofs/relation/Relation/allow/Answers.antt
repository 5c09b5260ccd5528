use Rattle.std.proofs.Common.{ℕ, ◌≡◌, ◌<◌, ◌≤◌, ◌+◌, ◌∙◌, arith}
use Rattle.tv_kleene.specs.declared.K3.{K3}
use Rattle.tv_row.specs.Places.{entry_in}
use Rattle.tv_quantifiers.specs.Rows.{through}
use Rattle.tv_quantifiers.proofs.RowLaws.{allowed-next, through-bare}
use Rattle.tv_quantifiers.proofs.relation.Relation.allow.Goals as goal

pub loop-u-preserved : goal.loop-u-preserved
loop-u-preserved c =
    let old : ℕ → ℕ → K3 = entry_in c.args.self.now
    in let now : ℕ → ℕ → K3 = entry_in c.loop-u.self
    in let new : ℕ → ℕ → K3 = entry_in c.extend.new.self
    in let n : ℕ = c.args.size
    in let u : ℕ = c.loop-u.u
    in let stop : ℕ = c.args.stop
    in let rows : ((v x : ℕ) → v < u + 1 → x < n → new v x ≡ through old stop v x)
    × ((v x : ℕ) → u + 1 ≤ v → new v x ≡ old v x) =
    allowed-next old now new n u stop c.requires.stop c.loop-u.invariant.1 c.loop-u.invariant.2
    c.extend.ensures.row c.extend.ensures.others
    in (c.extend.ensures.size ∙ c.loop-u.invariant.0, rows.0, rows.1, c.extend.ensures.square)

pub returns-then-is_bare-clause-value : goal.returns-then-is_bare-clause-value
returns-then-is_bare-clause-value c = λ u w lu lw.
    through-bare (entry_in c.args.self.now) c.args.stop u w
    (c.is_bare.ensures c.if-is_bare.true w (omega (arith, c.requires.square.columns c.args.stop c.requires.stop)))
