use Rattle.std.proofs.Common.{◌≡◌, ◌∙◌, [], List, arith, map, refl, subst, sym}
use Rattle.std.proofs.lemmas.Bool.{eqb-true}
use Rattle.std.proofs.lemmas.List.{nil_from_length}
use Rattle.tv_model.specs.Program.{program_of}
use Rattle.tv_model.specs.declared.formula.PredId.{PredId}
use Rattle.tv_update.specs.Defined.{AreEvaluated}
use Rattle.tv_update.proofs.Defines.{none_evaluated}
use Rattle.tv_update.proofs.Whole.{whole_finished}
use Rattle.tv_update.proofs.new.finish_whole.Goals as goal

pub returns-clause-structures : goal.returns-clause-structures
returns-clause-structures c =
    whole_finished (program_of c.args.program.now) (map (λ p. p.0) c.args.order.now) c.args.t.now
    c.define_all.new.t c.size.ensures.kept c.requires.unmarked c.size-3.ensures.kept
    c.in_ok-define_all.ensures.evaluated

pub returns-then-is_empty : goal.returns-then-is_empty
returns-then-is_empty c =
    let none : c.args.order.now ≡ []
    = nil_from_length c.args.order.now (omega (arith, eqb-true _ _ (sym c.is_empty.ensures ∙ c.if-is_empty.true)))
    in record {
      structures = whole_finished (program_of c.args.program.now) (map (λ p. p.0) c.args.order.now) c.args.t.now
          c.args.t.now c.size.ensures.kept c.requires.unmarked c.size.ensures.kept
          (subst (λ (ps : List PredId). AreEvaluated (program_of c.args.program.now) (map (λ p. p.0) ps) c.args.t.now c.args.t.now)
          (sym none) (none_evaluated (program_of c.args.program.now) c.args.t.now));
      scratch = refl;
    }
