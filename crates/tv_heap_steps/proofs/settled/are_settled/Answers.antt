use Rattle.std.proofs.Common.{◌≡◌, ◌≢◌, map, refl, subst}
use Rattle.std.proofs.lemmas.List.{take_all}
use Rattle.tv_lemmas.proofs.Bools.{isnt_so}
use Rattle.tv_model.specs.Program.{CFree, UpdateForm, update_of}
use Rattle.tv_heap_steps.specs.Settled.{AreSettled}
use Rattle.tv_heap_steps.proofs.SettledLaws.{not_all}
use Rattle.tv_heap_steps.proofs.settled.are_settled.Goals as goal

pub returns-then-is_free : goal.returns-then-is_free
returns-then-is_free c =
    isnt_so (AreSettled (map update_of c.args.updates.now))
    (not_all (λ (w : UpdateForm). w.change ≢ CFree) update_of c.args.updates.now c.loop-update.update-index
    c.update-item.result c.loop-update-test.true c.update-item.is (λ h. h (c.is_free.ensures.0 c.if-is_free.true)))

pub returns : goal.returns
returns c = (
  λ t_. subst (λ us. AreSettled (map update_of us))
      (take_all c.loop-update.update-index c.args.updates.now c.loop-update-test.false) c.loop-update.invariant,
  λ all. refl,
)
