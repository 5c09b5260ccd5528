use Rattle.std.proofs.Common.{refl}
use Rattle.std.proofs.lemmas.Result.{err_from_is_err_and}
use Rattle.tv_flat.specs.Views.{binding_of}
use Rattle.tv_expand.specs.Views.{sets_of}
use Rattle.tv_expand.proofs.SetLaws.{set_members, fails_then}
use Rattle.tv_expand.proofs.sets.+set.Goals as goal

pub members-returns-in_err-found : goal.members-returns-in_err-found
members-returns-in_err-found t c =
    let p = err_from_is_err_and c.from_residual.result c.from_residual.ensures.1 in
    rw (p.1, p.2, set_members (sets_of c.args.sets.now.entries) (binding_of c.args.binding.now) c.args.set.now) (fails_then _ _ _ c.in_err-found.ensures)

pub members-loop-step-init : goal.members-loop-step-init
members-loop-step-init t c =
    rw (c.deref-step-items.ensures.value, set_members (sets_of c.args.sets.now.entries) (binding_of c.args.binding.now) c.args.set.now, c.in_ok-found.ensures) refl
