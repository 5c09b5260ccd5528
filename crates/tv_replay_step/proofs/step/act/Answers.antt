use Rattle.std.proofs.Common.{◌<◌, List, length, map, refl, sym, subst}
use Rattle.std.specs.Prelude.{IfSome}
use Rattle.std.specs.List.{AllByRecursion}
use Rattle.std.proofs.lemmas.Bool.{false≢true}
use Rattle.tv_model.specs.Program.{update_of}
use Rattle.tv_model.specs.declared.program.Update.{Update}
use Rattle.tv_structure_form.specs.StructureForm.{arities_of}
use Rattle.tv_replay_step.specs.Free.{CanCopy, GivesAll, IsFinished, IsFree}
use Rattle.tv_replay_step.specs.Turns.{program_in}
use Rattle.tv_replay_step.proofs.Turning.{acts, can-copy, no-values-here, updated-here, values-known}
use Rattle.tv_replay_step.proofs.step.act.Goals as goal

pub gives_all-requires : goal.gives_all-requires
gives_all-requires c =
    subst (λ (ws : List Update). IfSome c.args.step.now.values (λ v. AllByRecursion (λ (w : Update). w.pred.0 < length (arities_of v)) ws))
    (sym c.as_slice-updates.ensures)
    (values-known c.args.turn.now c.args.s.now c.args.picks.now c.args.step.now c.args.scratch.now c.requires.can)

pub returns-then-not-gives_all-clause-halt : goal.returns-then-not-gives_all-clause-halt
returns-then-not-gives_all-clause-halt c = (
  refl,
  no-values-here c.args.turn.now c.args.s.now c.args.picks.now c.args.step.now c.args.scratch.now c.requires.can c.in_ok-given.given
      (updated-here c.args.turn.now c.args.s.now c.args.picks.now c.args.step.now c.args.scratch.now c.requires.can c.in_ok-given.given
      c.in_ok-given.ensures.updated)
      (λ all. false≢true (c.if-not-gives_all.ensures.1
      (subst (λ n. GivesAll n c.args.step.now.values (map update_of c.as_slice-updates.result.now)) (sym c.size.ensures.size)
      (subst (λ (ws : List Update). GivesAll c.in_ok-given.given.size c.args.step.now.values (map update_of ws)) (sym c.as_slice-updates.ensures)
      all)))),
)

pub finished-requires-clause-values : goal.finished-requires-clause-values
finished-requires-clause-values c =
    subst (λ (ws : List Update). IfSome c.args.step.now.values (λ v. AllByRecursion (λ (w : Update). IsFree (update_of w)
    → CanCopy v c.in_ok-given.given w.pred.0) ws))
    (sym c.as_slice-updates.ensures)
    (can-copy c.args.turn.now c.args.s.now c.args.picks.now c.args.step.now c.args.scratch.now c.requires.can c.in_ok-given.given
    c.in_ok-given.ensures.updated.over.over
    (subst (λ (ws : List Update). GivesAll c.in_ok-given.given.size c.args.step.now.values (map update_of ws)) c.as_slice-updates.ensures
    (subst (λ n. GivesAll n c.args.step.now.values (map update_of c.as_slice-updates.result.now)) c.size.ensures.size
    (c.if-not-gives_all.ensures.0 refl))))

pub returns-clause-acts : goal.returns-clause-acts
returns-clause-acts c =
    acts c.args.turn.now c.args.s.now c.args.picks.now c.args.step.now c.args.scratch.now c.requires.can c.in_ok-given.given c.in_ok-heap.heap
    (updated-here c.args.turn.now c.args.s.now c.args.picks.now c.args.step.now c.args.scratch.now c.requires.can c.in_ok-given.given
    c.in_ok-given.ensures.updated)
    (subst (λ (ws : List Update). GivesAll c.in_ok-given.given.size c.args.step.now.values (map update_of ws)) c.as_slice-updates.ensures
    (subst (λ n. GivesAll n c.args.step.now.values (map update_of c.as_slice-updates.result.now)) c.size.ensures.size
    (c.if-not-gives_all.ensures.0 refl)))
    (subst (λ (ws : List Update). IsFinished (program_in c.args.turn.now) (map update_of ws) c.args.step.now.values c.in_ok-given.given
    c.in_ok-heap.heap) c.as_slice-updates.ensures c.in_ok-heap.ensures.finished)
    (record { node = c.args.turn.now.edge.now.to; heap = c.in_ok-heap.heap; broken = c.first_differing-broken.result })
    refl refl c.first_differing-broken.ensures.first
