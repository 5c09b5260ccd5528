use Rattle.std.proofs.Common.{List, map, ap, sym, subst, ◌∙◌}
use Rattle.std.proofs.lemmas.Result.{err_from_is_err_and}
use Rattle.tv_tree.specs.Copies.{pred_of as decl_of}
use Rattle.tv_tree.specs.declared.trees.PredDecl.{PredDecl}
use Rattle.tv_tree.specs.declared.trees.RuleDecl.{RuleDecl}
use Rattle.tv_model.specs.Program.{pred_of, rule_of as ruled_of, action_of}
use Rattle.tv_model.specs.declared.program.Pred.{Pred}
use Rattle.tv_flat.specs.FlatForm.{flat_of, rule_of, parts_of, flat_edge_of}
use Rattle.tv_flat.specs.declared.flat.FlatAction.{FlatAction}
use Rattle.tv_flat.specs.declared.flat.FlatEdge.{FlatEdge}
use Rattle.tv_names.specs.Refusal.{Refuses, each}
use Rattle.tv_names.specs.Copies.{symbols_of}
use Rattle.tv_vocab.specs.Views.{declared_of, drawn_of}
use Rattle.tv_vocab.specs.Vocabulary.{vocabulary, rule}
use Rattle.tv_vocab.specs.Actions.{action}
use Rattle.tv_vocab.specs.Graph.{graph}
use Rattle.tv_vocab.proofs.Phases.{rules_refused, actions_refused, graph_refused, program_given}
use Rattle.tv_vocab.proofs.resolution.flat_program.Goals as goal

pub returns-in_err-rules : goal.returns-in_err-rules
returns-in_err-rules c =
    let p = err_from_is_err_and c.from_residual-in_err-rules.result c.from_residual-in_err-rules.ensures.1 in
    let known = symbols_of c.in_ok-declared.declared.symbols in
    let declared = ap (λ (ds : List PredDecl). vocabulary (map decl_of ds)) (sym c.as_slice.ensures) ∙ c.in_ok-declared.ensures in
    let h = subst (λ (rs : List RuleDecl). Refuses c.in_err-rules.field-0.0 (each (λ r. rule known r.body r.head) (map rule_of rs))) c.as_slice-2.ensures c.in_err-rules.ensures in
    rw (p.1, p.2) (rules_refused (flat_of c.args.flat.now) (declared_of c.in_ok-declared.declared) declared c.in_err-rules.field-0.0 h)

pub returns-in_err-actions : goal.returns-in_err-actions
returns-in_err-actions c =
    let p = err_from_is_err_and c.from_residual-in_err-actions.result c.from_residual-in_err-actions.ensures.1 in
    let known = symbols_of c.in_ok-declared.declared.symbols in
    let declared = ap (λ (ds : List PredDecl). vocabulary (map decl_of ds)) (sym c.as_slice.ensures) ∙ c.in_ok-declared.ensures in
    let ruled = ap (λ (rs : List RuleDecl). each (λ r. rule known r.body r.head) (map rule_of rs)) (sym c.as_slice-2.ensures) ∙ c.in_ok-rules.ensures in
    let at = subst (λ (ps : List Pred). Refuses c.in_err-actions.field-0.0 (each (action known (map pred_of ps)) (map parts_of c.as_slice-flat_actions.result.now))) c.deref.ensures.value c.in_err-actions.ensures in
    let h = subst (λ (fs : List FlatAction). Refuses c.in_err-actions.field-0.0 (each (action known (map pred_of c.in_ok-declared.declared.preds.items)) (map parts_of fs))) c.as_slice-flat_actions.ensures at in
    rw (p.1, p.2) (actions_refused (flat_of c.args.flat.now) (declared_of c.in_ok-declared.declared) declared (map ruled_of c.in_ok-rules.rules.items) ruled c.in_err-actions.field-0.0 h)

pub returns-in_err-drawn : goal.returns-in_err-drawn
returns-in_err-drawn c =
    let p = err_from_is_err_and c.from_residual-in_err-drawn.result c.from_residual-in_err-drawn.ensures.1 in
    let known = symbols_of c.in_ok-declared.declared.symbols in
    let declared = ap (λ (ds : List PredDecl). vocabulary (map decl_of ds)) (sym c.as_slice.ensures) ∙ c.in_ok-declared.ensures in
    let ruled = ap (λ (rs : List RuleDecl). each (λ r. rule known r.body r.head) (map rule_of rs)) (sym c.as_slice-2.ensures) ∙ c.in_ok-rules.ensures in
    let acted = ap (λ (ps : List Pred). each (action known (map pred_of ps)) (map parts_of c.args.flat.now.actions)) (sym c.deref.ensures.value) ∙ ap (λ (fs : List FlatAction). each (action known (map pred_of c.deref.result.now)) (map parts_of fs)) (sym c.as_slice-flat_actions.ensures) ∙ c.in_ok-actions.ensures in
    let h = subst (λ (es : List FlatEdge). Refuses c.in_err-drawn.field-0.0 (graph (map flat_edge_of es))) c.as_slice-3.ensures c.in_err-drawn.ensures in
    rw (p.1, p.2) (graph_refused (flat_of c.args.flat.now) (declared_of c.in_ok-declared.declared) declared (map ruled_of c.in_ok-rules.rules.items) ruled (map action_of c.in_ok-actions.actions.items) acted c.in_err-drawn.field-0.0 h)

pub returns : goal.returns
returns c =
    let known = symbols_of c.in_ok-declared.declared.symbols in
    let declared = ap (λ (ds : List PredDecl). vocabulary (map decl_of ds)) (sym c.as_slice.ensures) ∙ c.in_ok-declared.ensures in
    let ruled = ap (λ (rs : List RuleDecl). each (λ r. rule known r.body r.head) (map rule_of rs)) (sym c.as_slice-2.ensures) ∙ c.in_ok-rules.ensures in
    let acted = ap (λ (ps : List Pred). each (action known (map pred_of ps)) (map parts_of c.args.flat.now.actions)) (sym c.deref.ensures.value) ∙ ap (λ (fs : List FlatAction). each (action known (map pred_of c.deref.result.now)) (map parts_of fs)) (sym c.as_slice-flat_actions.ensures) ∙ c.in_ok-actions.ensures in
    let drawn = ap (λ (es : List FlatEdge). graph (map flat_edge_of es)) (sym c.as_slice-3.ensures) ∙ c.in_ok-drawn.ensures in
    rw (c.from_vec.ensures, c.from_vec-2.ensures, c.from_vec-3.ensures)
    (program_given (flat_of c.args.flat.now) (declared_of c.in_ok-declared.declared) declared (map ruled_of c.in_ok-rules.rules.items) ruled (map action_of c.in_ok-actions.actions.items) acted (drawn_of c.in_ok-drawn.drawn) drawn)
