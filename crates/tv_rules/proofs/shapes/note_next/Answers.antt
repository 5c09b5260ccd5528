use Rattle.std.proofs.Common.{inr, refl}
use Rattle.tv_model.specs.Program.{rule_of}
use Rattle.tv_rules.specs.EntryForms.{numbers_of}
use Rattle.tv_rules.proofs.RuleTests.{more_free-next, more_free-none, more_free-noted}
use Rattle.tv_rules.proofs.shapes.note_next.Goals as goal

pub returns-in_ok-note_tied : goal.returns-in_ok-note_tied
returns-in_ok-note_tied c =
    let rule = rule_of c.args.rule.now
    in let old = numbers_of c.args.vars.now
    in let new = numbers_of c.note.new.vars
    in (
      more_free-next rule old new (numbers_of c.note_tied.new.vars)
          (more_free-noted rule old old new c.args.v.0 c.requires (more_free-none rule old) c.in_ok-note.ensures)
          c.in_ok-note_tied.ensures,
      λ free. (c.in_ok-note_tied.ensures c.args.v.0).0 ((c.in_ok-note.ensures c.args.v.0).1 (inr (refl, free))),
    )

pub returns-else-len-before : goal.returns-else-len-before
returns-else-len-before c =
    let rule = rule_of c.args.rule.now
    in let old = numbers_of c.args.vars.now
    in (
      more_free-noted rule old old (numbers_of c.note.new.vars) c.args.v.0 c.requires (more_free-none rule old)
          c.in_ok-note.ensures,
      λ free. (c.in_ok-note.ensures c.args.v.0).1 (inr (refl, free)),
    )
