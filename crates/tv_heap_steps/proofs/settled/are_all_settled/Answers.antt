use Rattle.std.proofs.Common.{◌≡◌, ◌∙◌, ◌↔◌, IsTrue, List, map, refl, subst, sym}
use Rattle.std.proofs.lemmas.Bool.{false≢true}
use Rattle.std.proofs.lemmas.List.{take_all}
use Rattle.tv_lemmas.proofs.Bools.{isnt_so}
use Rattle.tv_model.specs.Program.{ActionForm, action_of, update_of}
use Rattle.tv_model.specs.declared.program.Update.{Update}
use Rattle.tv_heap_steps.specs.Settled.{AreAllSettled, AreSettled}
use Rattle.tv_heap_steps.proofs.SettledLaws.{not_all}
use Rattle.tv_heap_steps.proofs.settled.are_all_settled.Goals as goal

pub returns-then-not-are_settled : goal.returns-then-not-are_settled
returns-then-not-are_settled c =
    let told : IsTrue c.are_settled.result ↔ AreSettled (map update_of c.action-item.result.updates)
    = subst (λ (us : List Update). IsTrue c.are_settled.result ↔ AreSettled (map update_of us)) c.as_slice.ensures
    c.are_settled.ensures
    in isnt_so (AreAllSettled (map action_of c.args.actions.now))
    (not_all (λ (a : ActionForm). AreSettled a.updates) action_of c.args.actions.now c.loop-action.action-index
    c.action-item.result c.loop-action-test.true c.action-item.is
    (λ h. false≢true (sym c.if-not-are_settled.true ∙ told.1 h)))

pub returns : goal.returns
returns c = (
  λ t_. subst (λ xs. AreAllSettled (map action_of xs))
      (take_all c.loop-action.action-index c.args.actions.now c.loop-action-test.false) c.loop-action.invariant,
  λ all. refl,
)
