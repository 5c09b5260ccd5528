use Rattle.tv_rules.specs.EntryForms.{forms_of}
use Rattle.tv_rules.specs.Moved.{AreConjunctsNoted}
use Rattle.tv_rules.proofs.moved.note_conjuncts.Given as goal

abbrev pub invariant-loop-k : goal.invariant-loop-k
invariant-loop-k l = AreConjunctsNoted l.k l.rule (forms_of l.list) l.initial.occurrences l.occurrences
