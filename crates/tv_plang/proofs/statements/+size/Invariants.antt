use Rattle.std.proofs.Common.{◌≡◌, ◌≤◌, ◌+◌, map, drop}
use Rattle.tv_source.specs.Copies.{stmts, stmt_of, block_of}
use Rattle.tv_plang_laws.specs.Positions.{count_all}
use Rattle.tv_plang.proofs.Sizes.{capped}
use Rattle.tv_plang.proofs.statements.+size.Given as goal

-- those so far and those that are left are all
abbrev pub invariant-size_of_block-loop-statement : goal.invariant-size_of_block-loop-statement
invariant-size_of_block-loop-statement l =
    (l.total ≤ 18446744073709551615)
    × (capped (l.total + count_all (stmts (map stmt_of (drop l.statement-index l.statement-items)))) ≡ capped (count_all (block_of l.block)))
