use Rattle.tv_judge.specs.Setting.{case_in}
use Rattle.tv_judge.proofs.StableLaws.{noted-more, stable-there}
use Rattle.tv_judge.proofs.found.note_stable.Goals as goal

pub returns-clause-stable : goal.returns-clause-stable
returns-clause-stable c =
    noted-more (case_in c.args.x.now) c.args.found.now.stable.keys c.insert.new.self.keys c.args.node c.in-Some.place _
    c.in_ok-insert.ensures.keys c.requires.so_far
    (stable-there (case_in c.args.x.now) c.args.node c.in-Some.place c.args.s.now
    (c.is_listed.ensures c.if-not-is_listed.false) c.requires.stable)
