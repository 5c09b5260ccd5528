use Rattle.std.proofs.Common.{◌≡◌, take}
use Rattle.tv_model.specs.Program.{message_of}
use Rattle.tv_step_laws.specs.Transfer.{message_value}
use Rattle.tv_step.proofs.messages.value_of.Given as goal

abbrev pub invariant-loop-s : goal.invariant-loop-s
invariant-loop-s l = record {
  value : l.value ≡ message_value (take l.s-index l.at_hand) (message_of l.message);
  scratch : l.scratch ≡ l.fn.scratch;
}
