use Rattle.std.proofs.Common.{◌≡◌, length}
use Rattle.tv_test_explain.proofs.call.files_of.Given as goal

-- each name has its content
abbrev pub invariant-loop-name : goal.invariant-loop-name
invariant-loop-name l = length l.names.items ≡ length l.contents.items
