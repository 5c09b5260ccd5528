use Rattle.std.proofs.Common.{◌≡◌, ◌∙◌, [], ◌∷◌, map, replicate, true, rules, subst, sym}
use Rattle.tv_model.specs.Program.{program_of}
use Rattle.tv_update.specs.New.{AreFinished}
use Rattle.tv_update.proofs.new.whole_structure.Goals as goal

pub returns-clause-structures : goal.returns-clause-structures
returns-clause-structures c =
    let pushed : c.push.new.self.items ≡ c.finish_whole.new.t ∷ [] = search rules
    in subst (AreFinished (program_of c.args.program.now) (map (λ p. p.0) c.args.order.now) c.args.updated
    (replicate c.args.updated.size true ∷ []))
    (sym (c.from_vec.ensures ∙ pushed)) c.in_ok-finish_whole.ensures.structures
