use Rattle.std.proofs.Common.{◌∙◌, ap, not, ◌++◌, ◌∷◌, []}
use Rattle.std.specs.Prelude.{if◌then◌else◌}
use Rattle.std.specs.List.{list_any, position_or_len}
use Rattle.tv_expand.specs.Expansion.{same_call}
use Rattle.tv_expand.specs.Views.{calls_of}
use Rattle.tv_expand.proofs.WiringLaws.{any_call, call_place, calls_with}
use Rattle.tv_expand.proofs.wiring.enter.Goals as goal

pub returns-clause-place : goal.returns-clause-place
returns-clause-place c =
    c.in_ok-insert_full.ensures.index ∙ call_place c.in_ok-words.words.items c.args.calls.now.keys ∙ ap (λ w. position_or_len (same_call w) (calls_of c.args.calls.now.keys)) c.in_ok-words.ensures

pub returns-clause-new : goal.returns-clause-new
returns-clause-new c =
    c.in_ok-insert_full.ensures.added ∙ ap not (any_call c.in_ok-words.words.items c.args.calls.now.keys ∙ ap (λ w. list_any (same_call w) (calls_of c.args.calls.now.keys)) c.in_ok-words.ensures)

pub returns-clause-calls : goal.returns-clause-calls
returns-clause-calls c =
    ap calls_of c.in_ok-insert_full.ensures.keys ∙ calls_with c.in_ok-words.words c.args.calls.now.keys ∙ ap (λ w. if list_any (same_call w) (calls_of c.args.calls.now.keys) then calls_of c.args.calls.now.keys else calls_of c.args.calls.now.keys ++ w ∷ []) c.in_ok-words.ensures
