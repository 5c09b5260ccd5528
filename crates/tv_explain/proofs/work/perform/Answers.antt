use Rattle.tv_explain.proofs.Begins.{spelled_begins, spelled_most}
use Rattle.tv_explain.proofs.Causes.{spelled_cause}
use Rattle.tv_explain.specs.Begins.{BeginsFor}
use Rattle.tv_explain_words.specs.Words.{form_of}
use Rattle.tv_words.specs.Words.{words_of}
use Rattle.tv_explain.proofs.work.perform.Goals as goal

pub returns-clause-unread : goal.returns-clause-unread
returns-clause-unread g c =
    let spells = rw c.in-Some.is at c.in_ok-command.ensures.some in
    λ none. absurd (none (form_of c.in-Some.command) spells)

pub returns-clause-begins : goal.returns-clause-begins
returns-clause-begins g c =
    let spells = rw c.in-Some.is at c.in_ok-command.ensures.some in
    let told = g.F.Files.holds c.args.files.now in
    let begins = BeginsFor told (g.F.Files.begins c.args.files.now) (g.F.Files.begins c.execute.new.files) in
    spelled_begins c.execute.result _ (form_of c.in-Some.command) begins spells c.execute.ensures.begins

pub returns-clause-cause : goal.returns-clause-cause
returns-clause-cause g c =
    let spells = rw c.in-Some.is at c.in_ok-command.ensures.some in
    spelled_cause _ _ (form_of c.in-Some.command) _ _ c.execute.result spells c.execute.ensures.cause

pub returns-clause-most : goal.returns-clause-most
returns-clause-most g c =
    let spells = rw c.in-Some.is at c.in_ok-command.ensures.some in
    spelled_most c.one_command.ensures (words_of c.args.words.now) (g.F.Files.holds c.args.files.now)
    (form_of c.in-Some.command) (g.F.Files.begins c.args.files.now) (g.F.Files.begins c.execute.new.files) spells
    c.execute.ensures.most
