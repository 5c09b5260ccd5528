use Rattle.std.proofs.Common.{◌≡◌, map, drop}
use Rattle.tv_source.specs.Copies.{stmt_of}
use Rattle.tv_source_syntax.specs.Copies.{in_a_row, statement_of, block_of}
use Rattle.tv_source_names.specs.Meaning.{block_meant}
use Rattle.tv_source_names.specs.Scopes.{variables_of, fields_of}
use Rattle.tv_source_names.proofs.Blocks.{behind_all}
use Rattle.tv_source_names.proofs.number.+blocks.Given as goal

-- those so far and those that are left are all of them
abbrev pub invariant-block-loop-one : goal.invariant-block-loop-one
invariant-block-loop-one l =
    block_meant (variables_of l.scope) (fields_of l.scope) (block_of l.scope.bytes.now l.tree)
    ≡ behind_all (map stmt_of l.items.items) (block_meant (variables_of l.scope) (fields_of l.scope) (in_a_row (map (statement_of l.scope.bytes.now) (drop l.one-index l.one-items))))
