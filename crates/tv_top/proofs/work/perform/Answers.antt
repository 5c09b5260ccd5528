use Rattle.tv_top.proofs.Begins.{spelled_begins, spelled_begun, spelled_most, unread_most}
use Rattle.tv_top.specs.Begins.{BeginsFor}
use Rattle.tv_words.specs.Words.{form_of, words_of}
use Rattle.tv_top.proofs.work.perform.Goals as goal

pub returns-clause-unread : goal.returns-clause-unread
returns-clause-unread g c =
    let spells = rw c.in-Some.is at c.in_ok-command.ensures.some in
    λ nothing. absurd (nothing (form_of c.in-Some.command) spells)

pub returns-clause-begins : goal.returns-clause-begins
returns-clause-begins g c =
    let spells = rw c.in-Some.is at c.in_ok-command.ensures.some in
    let told = g.F.Files.holds c.args.files.now in
    let begins = BeginsFor told (g.F.Files.begins c.args.files.now) (g.F.Files.begins c.execute.new.files) in
    spelled_begins c.execute.result _ (form_of c.in-Some.command) begins spells c.execute.ensures.begins

pub returns-clause-begun : goal.returns-clause-begun
returns-clause-begun g c =
    let spells = rw c.in-Some.is at c.in_ok-command.ensures.some in
    spelled_begun _ _ (form_of c.in-Some.command) _ _ c.execute.result spells c.execute.ensures.begun

pub returns-clause-most : goal.returns-clause-most
returns-clause-most g c =
    let spells = rw c.in-Some.is at c.in_ok-command.ensures.some in
    let f = g.F.Files in
    spelled_most c.one_command.ensures (words_of c.args.words.now) (f.holds c.args.files.now) (form_of c.in-Some.command)
    (f.begins c.args.files.now) (f.begins c.execute.new.files) c.execute.result spells c.execute.ensures.begins
    c.execute.ensures.begun
