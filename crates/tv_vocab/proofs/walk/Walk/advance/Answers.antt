use Rattle.std.proofs.Common.{ℕ, [], ◌∷◌, ◌++◌, sym, ◌∙◌, map}
use Rattle.std.specs.Global.{Vec}
use Rattle.tv_vocab.specs.Walk.{work}
use Rattle.tv_vocab.proofs.WalkLaws.{closed_marks_are, closed_path_is, closed_keeps, closed_less}
use Rattle.tv_vocab.proofs.WalkLaws.{seen_marks_are, seen_leads_to, seen_less, less_if}
use Rattle.tv_vocab.proofs.walk.Walk.advance.Goals as goal

pub returns-in-None-clause-marks : goal.returns-in-None-clause-marks
returns-in-None-clause-marks c = closed_marks_are (map (λ (one : Vec ℕ). one.items) c.args.uses.now) c.args.self.now.marks.items c.put_mark.new.self.marks.items c.args.self.now.path.items c.put_mark.new.self.path.items c.args.step c.put_mark.ensures.marks c.put_mark.ensures.path c.requires.marks c.requires.path (sym c.next_mention.ensures ∙ c.in-None.is)

pub returns-in-None-clause-path : goal.returns-in-None-clause-path
returns-in-None-clause-path c = closed_path_is (map (λ (one : Vec ℕ). one.items) c.args.uses.now) c.args.self.now.marks.items c.put_mark.new.self.marks.items c.args.self.now.path.items c.put_mark.new.self.path.items c.args.step c.put_mark.ensures.marks c.put_mark.ensures.path c.requires.path

pub returns-in-None-clause-kept : goal.returns-in-None-clause-kept
returns-in-None-clause-kept c = closed_keeps (map (λ (one : Vec ℕ). one.items) c.args.uses.now) c.args.self.now.marks.items c.put_mark.new.self.marks.items c.args.self.now.path.items c.put_mark.new.self.path.items c.args.step c.put_mark.ensures.marks c.put_mark.ensures.path

pub returns-in-None-clause-work : goal.returns-in-None-clause-work
returns-in-None-clause-work c = closed_less (map (λ (one : Vec ℕ). one.items) c.args.uses.now) c.args.self.now.marks.items c.put_mark.new.self.marks.items c.args.self.now.path.items c.put_mark.new.self.path.items c.args.step c.put_mark.ensures.marks c.put_mark.ensures.path

pub come_to-requires-clause-marks : goal.come_to-requires-clause-marks
come_to-requires-clause-marks c = seen_marks_are (map (λ (one : Vec ℕ). one.items) c.args.uses.now) c.args.self.now.marks.items c.args.self.now.path.items c.push.new.self.items c.args.step c.in-Some.pred c.in-Some.seen (sym c.next_mention.ensures ∙ c.in-Some.is) c.in_ok-push-in-Some.ensures.items c.requires.marks

pub come_to-requires-clause-leads : goal.come_to-requires-clause-leads
come_to-requires-clause-leads c = seen_leads_to (map (λ (one : Vec ℕ). one.items) c.args.uses.now) c.args.self.now.marks.items c.args.self.now.path.items c.push.new.self.items c.args.step c.in-Some.pred c.in-Some.seen (sym c.next_mention.ensures ∙ c.in-Some.is) c.in_ok-push-in-Some.ensures.items c.requires.path

pub returns-in_ok-push-in-Some-clause-work : goal.returns-in_ok-push-in-Some-clause-work
returns-in_ok-push-in-Some-clause-work c =
    let uses = map (λ (one : Vec ℕ). one.items) c.args.uses.now in
    less_if c.come_to.result
    (work uses c.come_to.new.self.marks.items c.come_to.new.self.path.items)
    (work uses c.args.self.now.marks.items c.push.new.self.items)
    (work uses c.args.self.now.marks.items (c.args.self.now.path.items ++ c.args.step ∷ []))
    c.come_to.ensures.work
    (seen_less uses c.args.self.now.marks.items c.args.self.now.path.items c.push.new.self.items c.args.step c.in-Some.pred c.in-Some.seen (sym c.next_mention.ensures ∙ c.in-Some.is) c.in_ok-push-in-Some.ensures.items)
