use Rattle.std.proofs.Common.{ℕ, ◌≡◌, ◌≤◌, ◌+◌, List, map, drop, ap, arith, length, drop_of_length-le}
use Rattle.tv_source.specs.Copies.{stmts, stmt_of}
use Rattle.tv_source.specs.declared.source.Statement.{Statement}
use Rattle.tv_plang_laws.specs.Positions.{count_all}
use Rattle.tv_plang.proofs.Sizes.{capped}
use Rattle.tv_plang.proofs.statements.+size.Goals as goal

all-counted : (total whole : ℕ) (items : List Statement) (i : ℕ) → length items ≤ i → total ≤ 18446744073709551615
    → capped (total + count_all (stmts (map stmt_of (drop i items)))) ≡ capped whole → total ≡ capped whole
all-counted total whole items i past below counted =
    let none : count_all (stmts (map stmt_of (drop i items))) ≡ 0
    = ap (λ xs. count_all (stmts (map stmt_of xs))) (drop_of_length-le items past)
    in omega (arith, counted, none, below)

pub size_of_block-returns : goal.size_of_block-returns
size_of_block-returns t c =
    all-counted c.loop-statement.total (count_all _) _ c.loop-statement.statement-index c.loop-statement-test.false
    c.loop-statement.invariant.0 c.loop-statement.invariant.1
