use Rattle.std.proofs.Common.{◌≡◌, map, take}
use Rattle.tv_model.specs.Program.{program_of}
use Rattle.tv_update.specs.New.{AreFinished}
use Rattle.tv_update.proofs.new.new_structures.Given as goal

abbrev pub invariant-loop-flags : goal.invariant-loop-flags
invariant-loop-flags l = record {
  structures : AreFinished (program_of l.recipe.program.now)
      (map (λ p. p.0) l.recipe.order.now) l.recipe.updated.now
      (take l.flags-index l.choices) l.out;
  scratch : l.scratch ≡ l.fn.scratch;
}
