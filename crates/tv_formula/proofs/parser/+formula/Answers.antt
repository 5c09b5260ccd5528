-- One step of each reading, by what the parts gave.
use Rattle.std.proofs.Common.{◌<◌, sym, ◌∙◌, arith, rules}
use Rattle.std.proofs.lemmas.Result.{err_from_is_err_and}
use Rattle.tv_lex.specs.Token.{spec_tokens}
use Rattle.tv_tree.specs.Copies.{form_of}
use Rattle.tv_formula.specs.Grammar.{Whole, Imp, Unary, Joined, Behind}
use Rattle.tv_formula.specs.Reading.{reading}
use Rattle.tv_formula.proofs.Steps.{marked, joined_steps, behind_steps, behind_ends, unary_negation}
use Rattle.tv_formula.proofs.Steps.{unary_group, unary_bound, unary_leaf, imp_lone, imp_whole, whole_lone}
use Rattle.tv_formula.proofs.Steps.{whole_chosen, negated_some, grouped_some, bound_some, chosen_some}
use Rattle.tv_formula.proofs.Steps.{told_below, told_negated, told_grouped, told_unbound, told_bound}
use Rattle.tv_formula.proofs.Steps.{told_yes, told_colon, told_no, told_left, told_right, told_test}
use Rattle.tv_formula.proofs.Steps.{told_first, told_depth, told_part}
use Rattle.tv_formula.proofs.parser.+formula.Goals as goal

-- ---- quantifiers

pub bound_at-returns-in_err-binder : goal.bound_at-returns-in_err-binder
bound_at-returns-in_err-binder t c =
    let p = err_from_is_err_and c.from_residual.result c.from_residual.ensures.1 in
    rw (p.1, p.2) (told_unbound c.in_err-binder.field-0.0 (reading c.args.depth) (spec_tokens c.args.bytes.now c.args.tokens.now) c.in_err-binder.ensures)

pub bound_at-formula_at-requires : goal.bound_at-formula_at-requires
bound_at-formula_at-requires t c = search rules

pub bound_at-returns-in_err-body : goal.bound_at-returns-in_err-body
bound_at-returns-in_err-body t c =
    let p = err_from_is_err_and c.from_residual-in_err-body.result c.from_residual-in_err-body.ensures.1 in
    rw (p.1, p.2) (told_bound c.in_err-body.field-0.0 (reading c.args.depth) (spec_tokens c.args.bytes.now c.args.tokens.now) _ _ c.in_ok-binder.ensures c.in_err-body.ensures)

pub bound_at-returns-in_err-over : goal.bound_at-returns-in_err-over
bound_at-returns-in_err-over t c =
    let p = err_from_is_err_and c.from_residual-in_err-over.result c.from_residual-in_err-over.ensures.1 in
    rw (p.1, p.2) tt

pub bound_at-returns : goal.bound_at-returns
bound_at-returns t c = bound_some (reading c.args.depth) _ _ _ _ _ _ c.in_ok-binder.ensures c.in_ok-body.ensures c.in_ok-over.ensures

-- ---- parentheses

pub group_at-formula_at-requires : goal.group_at-formula_at-requires
group_at-formula_at-requires t c = search rules

pub group_at-returns-in_err-inner : goal.group_at-returns-in_err-inner
group_at-returns-in_err-inner t c =
    let p = err_from_is_err_and c.from_residual.result c.from_residual.ensures.1 in
    rw (p.1, p.2) (told_grouped c.in_err-inner.field-0.0 (reading c.args.depth) (spec_tokens c.args.bytes.now c.args.tokens.now) c.in_err-inner.ensures)

pub group_at-returns : goal.group_at-returns
group_at-returns t c = rw (grouped_some (reading c.args.depth) (spec_tokens c.args.bytes.now c.args.tokens.now) _ _ c.in_ok-inner.ensures) c.closed.ensures

-- ---- negations

pub negation_at-unary_at-requires : goal.negation_at-unary_at-requires
negation_at-unary_at-requires t c = search rules

pub negation_at-returns-in_err-inner : goal.negation_at-returns-in_err-inner
negation_at-returns-in_err-inner t c =
    let p = err_from_is_err_and c.from_residual.result c.from_residual.ensures.1 in
    rw (p.1, p.2) (told_negated c.in_err-inner.field-0.0 (reading c.args.depth) (spec_tokens c.args.bytes.now c.args.tokens.now) c.in_err-inner.ensures)

pub negation_at-returns-in_err-negation : goal.negation_at-returns-in_err-negation
negation_at-returns-in_err-negation t c =
    let p = err_from_is_err_and c.from_residual-in_err-negation.result c.from_residual-in_err-negation.ensures.1 in
    rw (p.1, p.2) tt

pub negation_at-returns : goal.negation_at-returns
negation_at-returns t c = negated_some (reading c.args.depth) _ _ _ _ c.in_ok-inner.ensures c.in_ok-negation.ensures

-- ---- what binds the closest

pub unary_at-returns-in_err-inner : goal.unary_at-returns-in_err-inner
unary_at-returns-in_err-inner t c =
    let p = err_from_is_err_and c.from_residual.result c.from_residual.ensures.1 in
    rw (p.1, p.2) (told_below c.in_err-inner.field-0.0 c.args.depth Unary (spec_tokens c.args.bytes.now c.args.tokens.now) c.in_err-inner.ensures.inner)

pub unary_at-negation_at-requires : goal.unary_at-negation_at-requires
unary_at-negation_at-requires t c = search rules

pub unary_at-returns-in-Some : goal.unary_at-returns-in-Some
unary_at-returns-in-Some t c = rw (unary_negation c.args.depth _ (spec_tokens c.args.bytes.now c.args.tokens.now) _ c.in_ok-inner.ensures.inner (sym c.in-Some.ensures.value)) c.negation_at.ensures

pub unary_at-group_at-requires : goal.unary_at-group_at-requires
unary_at-group_at-requires t c = search rules

pub unary_at-returns-in-Some-after : goal.unary_at-returns-in-Some-after
unary_at-returns-in-Some-after t c = rw (unary_group c.args.depth _ (spec_tokens c.args.bytes.now c.args.tokens.now) _ c.in_ok-inner.ensures.inner (sym c.in_default.ensures.value) (sym c.in-Some-after.ensures.value)) c.group_at.ensures

pub unary_at-bound_at-requires : goal.unary_at-bound_at-requires
unary_at-bound_at-requires t c = search rules

pub unary_at-returns-then-begins_binder : goal.unary_at-returns-then-begins_binder
unary_at-returns-then-begins_binder t c = rw (unary_bound c.args.depth _ (spec_tokens c.args.bytes.now c.args.tokens.now) c.in_ok-inner.ensures.inner (sym c.in_default.ensures.value) (sym c.in_default-after.ensures.value) (sym c.begins_binder.ensures ∙ c.if-begins_binder.true)) c.bound_at.ensures

pub unary_at-returns-else-begins_binder : goal.unary_at-returns-else-begins_binder
unary_at-returns-else-begins_binder t c = rw (unary_leaf c.args.depth _ (spec_tokens c.args.bytes.now c.args.tokens.now) c.in_ok-inner.ensures.inner (sym c.in_default.ensures.value) (sym c.in_default-after.ensures.value) (sym c.begins_binder.ensures ∙ c.if-begins_binder.false)) c.leaf_at.ensures

-- ---- what a connective joins

pub operand_at-implication_at-requires : goal.operand_at-implication_at-requires
operand_at-implication_at-requires t c = search rules

pub operand_at-joined_at-requires : goal.operand_at-joined_at-requires
operand_at-joined_at-requires t c = search rules

pub operand_at-unary_at-requires : goal.operand_at-unary_at-requires
operand_at-unary_at-requires t c = search rules

pub operand_at-returns-in-Iff : goal.operand_at-returns-in-Iff
operand_at-returns-in-Iff t c = rw c.in-Iff.is c.implication_at.ensures

pub operand_at-returns-in-Or : goal.operand_at-returns-in-Or
operand_at-returns-in-Or t c = rw c.in-Or.is c.joined_at.ensures

pub operand_at-returns-in-And : goal.operand_at-returns-in-And
operand_at-returns-in-And t c = rw c.in-And.is c.unary_at.ensures

-- ---- implications

pub implication_at-returns-in_err-inner : goal.implication_at-returns-in_err-inner
implication_at-returns-in_err-inner t c =
    let p = err_from_is_err_and c.from_residual.result c.from_residual.ensures.1 in
    rw (p.1, p.2) (told_below c.in_err-inner.field-0.0 c.args.depth Imp (spec_tokens c.args.bytes.now c.args.tokens.now) c.in_err-inner.ensures.inner)

pub implication_at-joined_at-requires : goal.implication_at-joined_at-requires
implication_at-joined_at-requires t c = search rules

pub implication_at-returns-in_err-left : goal.implication_at-returns-in_err-left
implication_at-returns-in_err-left t c =
    let p = err_from_is_err_and c.from_residual-in_err-left.result c.from_residual-in_err-left.ensures.1 in
    rw (p.1, p.2) (told_left c.in_err-left.field-0.0 c.args.depth _ (spec_tokens c.args.bytes.now c.args.tokens.now) c.in_ok-inner.ensures.inner c.in_err-left.ensures)

pub implication_at-implication_at-requires : goal.implication_at-implication_at-requires
implication_at-implication_at-requires t c = search rules

pub implication_at-returns-in_err-right : goal.implication_at-returns-in_err-right
implication_at-returns-in_err-right t c =
    let p = err_from_is_err_and c.from_residual-in_err-right.result c.from_residual-in_err-right.ensures.1 in
    rw (p.1, p.2) (told_right c.in_err-right.field-0.0 c.args.depth _ (spec_tokens c.args.bytes.now c.args.tokens.now) _ _ _ c.in_ok-inner.ensures.inner c.in_ok-left.ensures (sym c.in-Some.ensures) c.in_err-right.ensures)

pub implication_at-returns-in_err-implication : goal.implication_at-returns-in_err-implication
implication_at-returns-in_err-implication t c =
    let p = err_from_is_err_and c.from_residual-in_err-implication.result c.from_residual-in_err-implication.ensures.1 in
    rw (p.1, p.2) tt

pub implication_at-returns : goal.implication_at-returns
implication_at-returns t c = imp_whole c.args.depth _ _ _ _ _ _ _ _ c.in_ok-inner.ensures.inner c.in_ok-left.ensures (sym c.in-Some.ensures) c.in_ok-right.ensures c.in_ok-implication.ensures

pub implication_at-returns-in_default : goal.implication_at-returns-in_default
implication_at-returns-in_default t c = imp_lone c.args.depth _ _ _ _ c.in_ok-inner.ensures.inner c.in_ok-left.ensures (sym c.in_default.ensures)

-- ---- conditionals

pub chosen_at-formula_at-requires : goal.chosen_at-formula_at-requires
chosen_at-formula_at-requires t c = search rules

pub chosen_at-formula_at-requires-2 : goal.chosen_at-formula_at-requires-2
chosen_at-formula_at-requires-2 t c = search rules

pub chosen_at-returns-in_err-yes : goal.chosen_at-returns-in_err-yes
chosen_at-returns-in_err-yes t c =
    let p = err_from_is_err_and c.from_residual.result c.from_residual.ensures.1 in
    rw (p.1, p.2) (told_yes c.in_err-yes.field-0.0 (reading c.args.depth) (form_of c.args.test.value) (spec_tokens c.args.bytes.now c.args.tokens.now) c.in_err-yes.ensures)

pub chosen_at-returns-in_err-behind : goal.chosen_at-returns-in_err-behind
chosen_at-returns-in_err-behind t c =
    let p = err_from_is_err_and c.from_residual-in_err-behind.result c.from_residual-in_err-behind.ensures.1 in
    rw (p.1, p.2) (told_colon c.in_err-behind.field-0.0 (reading c.args.depth) (form_of c.args.test.value) _ (spec_tokens c.args.bytes.now c.args.tokens.now) _ c.in_ok-yes.ensures c.in_err-behind.ensures)

pub chosen_at-returns-in_err-no : goal.chosen_at-returns-in_err-no
chosen_at-returns-in_err-no t c =
    let p = err_from_is_err_and c.from_residual-in_err-no.result c.from_residual-in_err-no.ensures.1 in
    rw (p.1, p.2) (told_no c.in_err-no.field-0.0 (reading c.args.depth) (form_of c.args.test.value) _ (spec_tokens c.args.bytes.now c.args.tokens.now) _ _ c.in_ok-yes.ensures c.in_ok-behind.ensures c.in_err-no.ensures)

pub chosen_at-returns-in_err-conditional : goal.chosen_at-returns-in_err-conditional
chosen_at-returns-in_err-conditional t c =
    let p = err_from_is_err_and c.from_residual-in_err-conditional.result c.from_residual-in_err-conditional.ensures.1 in
    rw (p.1, p.2) tt

pub chosen_at-returns : goal.chosen_at-returns
chosen_at-returns t c = chosen_some (reading c.args.depth) _ _ _ _ _ _ _ _ c.in_ok-yes.ensures c.in_ok-behind.ensures c.in_ok-no.ensures c.in_ok-conditional.ensures

-- ---- formulas

pub formula_at-returns-in_err-inner : goal.formula_at-returns-in_err-inner
formula_at-returns-in_err-inner t c =
    let p = err_from_is_err_and c.from_residual.result c.from_residual.ensures.1 in
    rw (p.1, p.2) (told_below c.in_err-inner.field-0.0 c.args.depth Whole (spec_tokens c.args.bytes.now c.args.tokens.now) c.in_err-inner.ensures.inner)

pub formula_at-joined_at-requires : goal.formula_at-joined_at-requires
formula_at-joined_at-requires t c = search rules

pub formula_at-returns-in_err-test : goal.formula_at-returns-in_err-test
formula_at-returns-in_err-test t c =
    let p = err_from_is_err_and c.from_residual-in_err-test.result c.from_residual-in_err-test.ensures.1 in
    rw (p.1, p.2) (told_test c.in_err-test.field-0.0 c.args.depth _ (spec_tokens c.args.bytes.now c.args.tokens.now) c.in_ok-inner.ensures.inner c.in_err-test.ensures)

pub formula_at-chosen_at-requires : goal.formula_at-chosen_at-requires
formula_at-chosen_at-requires t c = search rules

pub formula_at-returns-in-Some : goal.formula_at-returns-in-Some
formula_at-returns-in-Some t c = rw (whole_chosen c.args.depth _ (spec_tokens c.args.bytes.now c.args.tokens.now) _ _ _ c.in_ok-inner.ensures.inner c.in_ok-test.ensures (sym c.in-Some.ensures.value)) c.chosen_at.ensures

pub formula_at-returns-in-None : goal.formula_at-returns-in-None
formula_at-returns-in-None t c = whole_lone c.args.depth _ _ _ _ c.in_ok-inner.ensures.inner c.in_ok-test.ensures (sym c.in-None.ensures.value)

-- ---- the parts that a connective joins

pub joined_at-returns-in_err-left : goal.joined_at-returns-in_err-left
joined_at-returns-in_err-left t c =
    let p = err_from_is_err_and c.from_residual.result c.from_residual.ensures.1 in
    rw (p.1, p.2) (told_below c.in_err-left.field-0.0 c.args.depth (Joined c.args.link) (spec_tokens c.args.bytes.now c.args.tokens.now) c.in_err-left.ensures.inner)

pub joined_at-operand_at-requires : goal.joined_at-operand_at-requires
joined_at-operand_at-requires t c = search rules

pub joined_at-returns-in_err-tree : goal.joined_at-returns-in_err-tree
joined_at-returns-in_err-tree t c =
    let p = err_from_is_err_and c.from_residual-in_err-tree.result c.from_residual-in_err-tree.ensures.1 in
    rw (p.1, p.2) (told_first c.in_err-tree.field-0.0 c.args.depth _ c.args.link (spec_tokens c.args.bytes.now c.args.tokens.now) c.in_ok-left.ensures.inner c.in_err-tree.ensures)

pub joined_at-parts-init : goal.joined_at-parts-init
joined_at-parts-init t c = record {
  read = joined_steps c.args.depth _ c.args.link _ _ _ c.in_ok-left.ensures.inner c.in_ok-tree.ensures;
  below = c.in_ok-left.ensures.less;
}

pub joined_at-returns-in_err-inner : goal.joined_at-returns-in_err-inner
joined_at-returns-in_err-inner t c =
    let p = err_from_is_err_and c.from_residual-in_err-inner.result c.from_residual-in_err-inner.ensures.1 in
    rw (p.1, p.2) (told_depth c.in_err-inner.field-0.0 _ c.parts.left (Behind c.args.link (form_of c.parts.tree.value)) (spec_tokens c.args.bytes.now c.parts.rest.now) c.parts.invariant.read c.in_err-inner.ensures.inner)

pub joined_at-returns-in_default : goal.joined_at-returns-in_default
joined_at-returns-in_default t c =
    c.parts.invariant.read
    ∙ behind_ends c.parts.left _ c.args.link (form_of c.parts.tree.value) (spec_tokens c.args.bytes.now c.parts.rest.now) c.in_ok-inner.ensures.inner (marked c.mark.result.now c.args.link (spec_tokens c.args.bytes.now c.parts.rest.now) _ c.mark.ensures c.in_default.ensures.value)

pub joined_at-operand_at-requires-in-parts : goal.joined_at-operand_at-requires-in-parts
joined_at-operand_at-requires-in-parts t c = search rules

pub joined_at-returns-in_err-right : goal.joined_at-returns-in_err-right
joined_at-returns-in_err-right t c =
    let p = err_from_is_err_and c.from_residual-in_err-right.result c.from_residual-in_err-right.ensures.1 in
    rw (p.1, p.2) (told_part c.in_err-right.field-0.0 _ c.parts.left _ c.args.link (form_of c.parts.tree.value) (spec_tokens c.args.bytes.now c.parts.rest.now) _ c.parts.invariant.read c.in_ok-inner.ensures.inner (marked c.mark.result.now c.args.link (spec_tokens c.args.bytes.now c.parts.rest.now) _ c.mark.ensures c.in-Some.ensures.value) c.in_err-right.ensures)

pub joined_at-returns-in_err-tree-2 : goal.joined_at-returns-in_err-tree-2
joined_at-returns-in_err-tree-2 t c =
    let p = err_from_is_err_and c.from_residual-in_err-tree-2.result c.from_residual-in_err-tree-2.ensures.1 in
    rw (p.1, p.2) tt

pub joined_at-parts-preserved : goal.joined_at-parts-preserved
joined_at-parts-preserved t c = record {
  read =
      c.parts.invariant.read
      ∙ behind_steps c.parts.left _ c.args.link (form_of c.parts.tree.value) _ _ (spec_tokens c.args.bytes.now c.parts.rest.now) _ _ c.in_ok-inner.ensures.inner (marked c.mark.result.now c.args.link (spec_tokens c.args.bytes.now c.parts.rest.now) _ c.mark.ensures c.in-Some.ensures.value) c.in_ok-right.ensures c.in_ok-tree-2.ensures;
  below =
      let less : c.in_ok-inner.inner < c.parts.left = c.in_ok-inner.ensures.less in
      let before : c.parts.left < c.args.depth = c.parts.invariant.below in
      omega arith;
}

pub joined_at-parts-smaller : goal.joined_at-parts-smaller
joined_at-parts-smaller t c = search rules
