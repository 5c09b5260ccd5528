use Rattle.std.proofs.Common.{◌≡◌, ◌≤◌, ◌+◌, ◌++◌}
use Rattle.tv_source.specs.Copies.{block_of, source_of}
use Rattle.tv_source.specs.Valid.{AreStmtsOf}
use Rattle.tv_plang_laws.specs.Compiled.{block_arcs}
use Rattle.tv_plang_laws.specs.Positions.{count_all}
use Rattle.tv_plang.specs.Arcs.{arcs_of}
use Rattle.tv_plang.proofs.ArcSteps.{left_of}
use Rattle.tv_plang.proofs.arcs.+arcs.Given as goal

-- the edges so far and those of the statements that are left are all of the block
abbrev pub invariant-put_block-loop-place : goal.invariant-put_block-loop-place
invariant-put_block-loop-place l =
    AreStmtsOf (source_of l.source) (left_of l.statement-items l.place)
    × (l.number + count_all (left_of l.statement-items l.place) ≤ 16384)
    × (arcs_of l.out.items ++ block_arcs (source_of l.source) l.number (left_of l.statement-items l.place) l.behind
    ≡ arcs_of l.initial.out.items ++ block_arcs (source_of l.source) l.first (block_of l.block) l.behind)
