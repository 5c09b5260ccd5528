use Rattle.std.proofs.Common.{◌≡◌, ◌≤◌, ◌++◌, length, drop, map}
use Rattle.tv_model.specs.Program.{program_of}
use Rattle.tv_complete_text.specs.Named.{named_form}
use Rattle.tv_complete_text.specs.Text.{woven}
use Rattle.tv_complete_text.proofs.text.Source.woven.Given as goal

-- what is written and what is left are all of it
abbrev pub invariant-loop-k : goal.invariant-loop-k
invariant-loop-k l = record {
  rest : length l.rest ≤ length l.self.bytes.now;
  text : l.out.items ++ woven (program_of l.self.program.now).preds l.self.bytes.now l.self.tokens.now l.rest
      (map (named_form l.self.bytes.now) (drop l.k l.named)) (drop l.k l.completed)
      ≡ woven (program_of l.self.program.now).preds l.self.bytes.now l.self.tokens.now l.self.bytes.now
      (map (named_form l.self.bytes.now) l.named) l.completed;
}
