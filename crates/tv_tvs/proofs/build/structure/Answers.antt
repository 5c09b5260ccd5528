use Rattle.std.proofs.Common.{◌∙◌, arith, sym, ap, subst, map}
use Rattle.std.proofs.lemmas.List.{length-map}
use Rattle.std.proofs.lemmas.Result.{err_from_is_err_and}
use Rattle.tv_lex.specs.Token.{text_of}
use Rattle.tv_tree.specs.Names.{names_of}
use Rattle.tv_tvs.specs.Meaning.{Answers, RefusesStructures, all_different, entries_put}
use Rattle.tv_tvs.specs.Views.{entry_trees, struct_tree}
use Rattle.tv_tvs.proofs.Building.{entries-decide}
use Rattle.tv_tvs.proofs.build.structure.Goals as goal

pub returns-in_err-put_entries-clause-meant : goal.returns-in_err-put_entries-clause-meant
returns-in_err-put_entries-clause-meant c =
    let p = err_from_is_err_and c.from_residual-in_err-put_entries.result c.from_residual-in_err-put_entries.ensures.1 in
    subst (Answers (λ s. s) c.from_residual-in_err-put_entries.result) (sym
    (entries-decide c.args.vocab.now.preds (struct_tree c.args.bytes.now c.args.tree.now)
    (names_of c.in_ok-individuals.individuals.keys) c.len-2.result
    (omega (arith, length-map c.args.tree.now.individuals.items (text_of c.args.bytes.now), c.len-2.ensures))
    (omega (arith, c.if-len-gt256.false, c.len.ensures, c.len-2.ensures))
    (ap (λ tokens. all_different (map (text_of c.args.bytes.now) tokens)) (sym c.as_slice.ensures.value) ∙ c.in_ok-individuals.ensures)
    ∙ ap (λ s. entries_put c.args.vocab.now.preds (names_of c.in_ok-individuals.individuals.keys) s
    (entry_trees c.args.bytes.now c.args.tree.now.entries.items)) (sym c.in_ok-s.ensures.value)))
    (rw (p.1, p.2) (subst (λ preds. RefusesStructures c.in_err-put_entries.field-0.0
    (entries_put preds (names_of c.in_ok-individuals.individuals.keys) c.in_ok-s.s
    (entry_trees c.args.bytes.now c.args.tree.now.entries.items))) c.as_slice-2.ensures
    (subst (λ entries. RefusesStructures c.in_err-put_entries.field-0.0
    (entries_put c.as_slice-2.result.now (names_of c.in_ok-individuals.individuals.keys) c.in_ok-s.s
    (entry_trees c.args.bytes.now entries))) c.as_slice-3.ensures.value c.in_err-put_entries.ensures.put)))

pub returns-clause-meant : goal.returns-clause-meant
returns-clause-meant c =
    entries-decide c.args.vocab.now.preds (struct_tree c.args.bytes.now c.args.tree.now)
    (names_of c.in_ok-individuals.individuals.keys) c.len-2.result
    (omega (arith, length-map c.args.tree.now.individuals.items (text_of c.args.bytes.now), c.len-2.ensures))
    (omega (arith, c.if-len-gt256.false, c.len.ensures, c.len-2.ensures))
    (ap (λ tokens. all_different (map (text_of c.args.bytes.now) tokens)) (sym c.as_slice.ensures.value) ∙ c.in_ok-individuals.ensures)
    ∙ ap (λ s. entries_put c.args.vocab.now.preds (names_of c.in_ok-individuals.individuals.keys) s
    (entry_trees c.args.bytes.now c.args.tree.now.entries.items)) (sym c.in_ok-s.ensures.value)
    ∙ ap (λ preds. entries_put preds (names_of c.in_ok-individuals.individuals.keys) c.in_ok-s.s
    (entry_trees c.args.bytes.now c.args.tree.now.entries.items)) (sym c.as_slice-2.ensures)
    ∙ ap (λ entries. entries_put c.as_slice-2.result.now (names_of c.in_ok-individuals.individuals.keys) c.in_ok-s.s
    (entry_trees c.args.bytes.now entries)) (sym c.as_slice-3.ensures.value)
    ∙ c.in_ok-put_entries.ensures.put
