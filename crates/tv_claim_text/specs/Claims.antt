-- What names a declaration of a program.
use Rattle.std.specs.Prelude.{ℕ, ◌+◌, List, [], ◌++◌, Option, None, Some, length, slice_get, codes}
use Rattle.tv_file_lines.specs.Numbered.{numbered}
use Rattle.tv_losses_unmet.specs.declared.claim.Claim.{Claim}
use Rattle.tv_losses_unmet.specs.declared.claim.Claim.TheVariants.{Predicate, Rule}
use Rattle.tv_model.specs.Program.{ProgramForm, PredForm}
use Rattle.tv_replay_laws.specs.JudgedRules.{rules_of_properties}

abbrev pub name_of_pred : Option PredForm → List ℕ
name_of_pred None = []
name_of_pred (Some d) = d.name

-- `the declaration of `, and the name of the predicate of this number
abbrev pub declaration_written : ProgramForm → (q : ℕ) → List ℕ
declaration_written p q = codes "the declaration of " ++ name_of_pred (slice_get p.preds q)

-- The number of a declared rule among those by which heaps are judged: behind those of the properties.
abbrev pub rule_number : ProgramForm → (declared : ℕ) → ℕ
rule_number p declared = length (rules_of_properties 0 p.preds) + declared

-- `the declaration of NAME`, `rule NUMBER`, or that no declaration alone is contradicted
abbrev pub claim_written : ProgramForm → Option Claim → List ℕ
claim_written p (Some (Predicate q)) = declaration_written p q.0
claim_written p (Some (Rule number)) = numbered (codes "rule ") (rule_number p number)
claim_written p None = codes "declarations together"
