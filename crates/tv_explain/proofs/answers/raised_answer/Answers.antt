use Rattle.tv_explain.proofs.answers.raised_answer.Goals as goal

pub trail_text-requires-clause-links : goal.trail_text-requires-clause-links
trail_text-requires-clause-links c = λ k d within. (c.requires.over.links k d within).1
