use Rattle.std.proofs.Common.{ℕ, sym, ◌∙◌, map}
use Rattle.std.specs.Prelude.{reverse}
use Rattle.std.specs.Global.{Vec}
use Rattle.tv_vocab.proofs.WalkLaws.{found, opened_marks_are, opened_path_is, opened_is_seen, opened_keeps}
use Rattle.tv_vocab.proofs.WalkLaws.{opened_even}
use Rattle.tv_vocab.proofs.walk.Walk.come_to.Goals as goal

pub returns-in-Open-clause-cycle : goal.returns-in-Open-clause-cycle
returns-in-Open-clause-cycle c = found (map (λ (one : Vec ℕ). one.items) c.args.uses.now) c.args.self.now.marks.items (reverse c.args.self.now.path.items) c.args.pred c.requires.marks c.requires.leads (sym c.mark.ensures ∙ c.in-Open.is)

pub returns-in_ok-push-in-Unseen-clause-marks : goal.returns-in_ok-push-in-Unseen-clause-marks
returns-in_ok-push-in-Unseen-clause-marks c = opened_marks_are (map (λ (one : Vec ℕ). one.items) c.args.uses.now) c.args.self.now.marks.items c.put_mark.new.self.marks.items c.args.self.now.path.items c.put_mark.new.self.path.items c.args.pred c.put_mark.ensures.marks (c.put_mark.ensures.path ∙ c.in_ok-push-in-Unseen.ensures.items) (sym c.mark.ensures ∙ c.in-Unseen.is) c.requires.marks

pub returns-in_ok-push-in-Unseen-clause-path : goal.returns-in_ok-push-in-Unseen-clause-path
returns-in_ok-push-in-Unseen-clause-path c = opened_path_is (map (λ (one : Vec ℕ). one.items) c.args.uses.now) c.args.self.now.marks.items c.put_mark.new.self.marks.items c.args.self.now.path.items c.put_mark.new.self.path.items c.args.pred c.put_mark.ensures.marks (c.put_mark.ensures.path ∙ c.in_ok-push-in-Unseen.ensures.items) (sym c.mark.ensures ∙ c.in-Unseen.is) c.requires.leads

pub returns-in_ok-push-in-Unseen-clause-seen : goal.returns-in_ok-push-in-Unseen-clause-seen
returns-in_ok-push-in-Unseen-clause-seen c = opened_is_seen (map (λ (one : Vec ℕ). one.items) c.args.uses.now) c.args.self.now.marks.items c.put_mark.new.self.marks.items c.args.self.now.path.items c.put_mark.new.self.path.items c.args.pred c.put_mark.ensures.marks (c.put_mark.ensures.path ∙ c.in_ok-push-in-Unseen.ensures.items) (sym c.mark.ensures ∙ c.in-Unseen.is)

pub returns-in_ok-push-in-Unseen-clause-kept : goal.returns-in_ok-push-in-Unseen-clause-kept
returns-in_ok-push-in-Unseen-clause-kept c = opened_keeps (map (λ (one : Vec ℕ). one.items) c.args.uses.now) c.args.self.now.marks.items c.put_mark.new.self.marks.items c.args.self.now.path.items c.put_mark.new.self.path.items c.args.pred c.put_mark.ensures.marks (c.put_mark.ensures.path ∙ c.in_ok-push-in-Unseen.ensures.items) (sym c.mark.ensures ∙ c.in-Unseen.is)

pub returns-in_ok-push-in-Unseen-clause-work : goal.returns-in_ok-push-in-Unseen-clause-work
returns-in_ok-push-in-Unseen-clause-work c = opened_even (map (λ (one : Vec ℕ). one.items) c.args.uses.now) c.args.self.now.marks.items c.put_mark.new.self.marks.items c.args.self.now.path.items c.put_mark.new.self.path.items c.args.pred c.put_mark.ensures.marks (c.put_mark.ensures.path ∙ c.in_ok-push-in-Unseen.ensures.items) (sym c.mark.ensures ∙ c.in-Unseen.is) c.requires.marks.count
