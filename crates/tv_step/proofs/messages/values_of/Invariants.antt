use Rattle.std.proofs.Common.{◌≡◌, map, take}
use Rattle.tv_model.specs.Program.{message_of}
use Rattle.tv_step_laws.specs.Transfer.{message_value}
use Rattle.tv_step.proofs.messages.values_of.Given as goal

abbrev pub invariant-loop-message : goal.invariant-loop-message
invariant-loop-message l = record {
  values : l.values ≡ map (message_value l.at_hand) (map message_of (take l.message-index l.messages));
  scratch : l.scratch ≡ l.fn.scratch;
}
