use Rattle.tv_model.specs.Program.{rule_of}
use Rattle.tv_rules.specs.EntryForms.{HasMoreFree, numbers_of}
use Rattle.tv_rules.proofs.shapes.note_tied.Given as goal

abbrev pub invariant-loop : goal.invariant-loop
invariant-loop l = HasMoreFree (rule_of l.rule) (numbers_of l.initial.vars) (numbers_of l.vars)
