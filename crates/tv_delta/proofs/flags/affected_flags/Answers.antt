use Rattle.std.proofs.Common.{◌≡◌, ◌∙◌, ◌++◌, Bool, List, [], length, map, ap, subst, sym}
use Rattle.std.proofs.lemmas.List.{length-map}
use Rattle.tv_model.specs.declared.program.Pred.{Pred}
use Rattle.tv_model.specs.declared.program.Update.{Update}
use Rattle.tv_model.specs.Program.{UpdateForm, program_of, action_of, pred_of, update_of}
use Rattle.tv_lemmas.proofs.Zips.{zip_length}
use Rattle.tv_delta.specs.Flags.{changed_from, AreMarked, AreMentionLists, ListTells}
use Rattle.tv_delta.proofs.Marks.{length-changed, marked_are_affected}
use Rattle.tv_delta.proofs.flags.affected_flags.Goals as goal

started : (old new xs : List Bool) → old ≡ [] → new ≡ old ++ xs → new ≡ xs
started old new xs empty pushed = pushed ∙ ap (λ ys. ys ++ xs) empty

fits : (new : List Bool) (preds : List Pred) (updates : List UpdateForm)
    → new ≡ changed_from 0 (map pred_of preds) updates → length new ≡ length preds
fits new preds updates is = ap length is ∙ length-changed 0 (map pred_of preds) updates ∙ length-map preds pred_of

pub mark-requires : goal.mark-requires
mark-requires c =
    sym (zip_length ListTells (program_of c.args.program.now).preds c.args.uses.now.lists.items c.requires.uses)
    ∙ length-map c.args.program.now.vocab.preds pred_of
    ∙ ap length (sym c.as_slice-preds.ensures)
    ∙ sym (fits c.push_changed.new.flags.items c.as_slice-preds.result.now (map update_of c.as_slice.result.now)
    (started c.in_ok-flags.flags.items c.push_changed.new.flags.items
    (changed_from 0 (map pred_of c.as_slice-preds.result.now) (map update_of c.as_slice.result.now))
    c.in_ok-flags.ensures.items c.in_ok-push_changed.ensures))

marked : (preds all : List Pred) (updates given : List Update) (old new : List Bool) → preds ≡ all → updates ≡ given
    → old ≡ changed_from 0 (map pred_of preds) (map update_of updates) → AreMarked (map pred_of preds) old new
    → AreMarked (map pred_of all) (changed_from 0 (map pred_of all) (map update_of given)) new
marked preds all updates given old new is are begins marks =
    subst (λ zs. AreMarked (map pred_of zs) (changed_from 0 (map pred_of zs) (map update_of given)) new) is
    (subst (λ ws. AreMarked (map pred_of preds) (changed_from 0 (map pred_of preds) (map update_of ws)) new) are
    (subst (λ fs. AreMarked (map pred_of preds) fs new) begins marks))

pub returns : goal.returns
returns c =
    marked_are_affected (program_of c.args.program.now) (action_of c.args.action.now) c.mark.new.flags.items
    (marked c.as_slice-preds.result.now c.args.program.now.vocab.preds c.as_slice.result.now c.args.action.now.updates
    c.push_changed.new.flags.items c.mark.new.flags.items c.as_slice-preds.ensures c.as_slice.ensures
    (started c.in_ok-flags.flags.items c.push_changed.new.flags.items
    (changed_from 0 (map pred_of c.as_slice-preds.result.now) (map update_of c.as_slice.result.now))
    c.in_ok-flags.ensures.items c.in_ok-push_changed.ensures)
    (c.mark.ensures (map pred_of c.as_slice-preds.result.now)
    (subst (λ ds. AreMentionLists (map pred_of ds) c.args.uses.now.lists.items) (sym c.as_slice-preds.ensures)
    c.requires.uses)))
