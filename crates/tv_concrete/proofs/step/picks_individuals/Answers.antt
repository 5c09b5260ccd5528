-- Each picked variable so far stands for an individual.
use Rattle.std.proofs.Common.{ℕ, ◌↔◌, Contains, IsTrue, true, false, subst, get_or}
use Rattle.std.proofs.lemmas.List.{get_or_default}
use Rattle.tv_model.specs.declared.formula.Var.{Var}
use Rattle.tv_concrete.specs.Lists.{assignment_of}
use Rattle.tv_concrete.proofs.Every.{every-more, every-false, every-true, mapped-answer}
use Rattle.tv_concrete.proofs.step.picks_individuals.Goals as goal

pub returns-then-not-has : goal.returns-then-not-has
returns-then-not-has c =
    let first : Var = record { 0 = 0 }
    in let item : Var = get_or c.args.picks.now c.loop-v.v-index first
    in let P : ℕ → Type 0 = λ u. IsTrue false ↔ Contains c.args.old.now.individuals u
    in mapped-answer (λ v. Contains c.args.old.now.individuals (assignment_of c.args.picked.now v))
    (λ (v : Var). v.0) c.args.picks.now false
    (every-false (λ (v : Var). Contains c.args.old.now.individuals
    (assignment_of c.args.picked.now v.0)) c.args.picks.now
    c.loop-v.v-index item c.loop-v-test.true
    (get_or_default c.args.picks.now c.loop-v.v-index first item c.loop-v-test.true)
    (subst P c.at.ensures c.if-not-has.ensures))

pub loop-v-preserved : goal.loop-v-preserved
loop-v-preserved c =
    let first : Var = record { 0 = 0 }
    in let item : Var = get_or c.args.picks.now c.loop-v.v-index first
    in let P : ℕ → Type 0 = λ u. IsTrue true ↔ Contains c.args.old.now.individuals u
    in every-more (λ (v : Var). Contains c.args.old.now.individuals
    (assignment_of c.args.picked.now v.0)) c.args.picks.now
    c.loop-v.v-index item c.loop-v-test.true
    (get_or_default c.args.picks.now c.loop-v.v-index first item c.loop-v-test.true) c.loop-v.invariant
    (subst P c.at.ensures c.if-not-has.ensures)

pub returns : goal.returns
returns c =
    mapped-answer (λ v. Contains c.args.old.now.individuals (assignment_of c.args.picked.now v))
    (λ (v : Var). v.0) c.args.picks.now true
    (every-true (λ (v : Var). Contains c.args.old.now.individuals
    (assignment_of c.args.picked.now v.0)) c.args.picks.now
    c.loop-v.v-index c.loop-v-test.false c.loop-v.invariant)
