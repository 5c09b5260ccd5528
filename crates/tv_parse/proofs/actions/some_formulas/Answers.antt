use Rattle.std.proofs.Common.{◌∙◌, sym, arith}
use Rattle.std.specs.Prelude.{codes}
use Rattle.std.proofs.lemmas.List.{length-map}
use Rattle.tv_lex.specs.Token.{spec_token, spec_tokens}
use Rattle.tv_tree.specs.Copies.{form_of}
use Rattle.tv_formula.specs.Reading.{formula_reading}
use Rattle.tv_phrases.proofs.Repeats.{joined_start, joined_more}
use Rattle.tv_parse.proofs.actions.some_formulas.Goals as goal

pub formulas-init : goal.formulas-init
formulas-init c = joined_start form_of c.new-list.result.items c.push.new.self.items c.in_ok-first.first (codes ",") formula_reading _ (spec_tokens c.args.bytes.now c.args.tokens.now) (spec_tokens c.args.bytes.now c.in_ok-first.rest.now) c.new-list.ensures.items c.in_ok-push.ensures.items (omega (arith, length-map c.in_ok-first.rest.now (spec_token c.args.bytes.now))) c.in_ok-first.ensures.reading

pub formulas-preserved : goal.formulas-preserved
formulas-preserved c =
    c.formulas.invariant
    ∙ joined_more form_of c.formulas.list.items c.push-in-formulas.new.self.items c.in_ok-further.further (codes ",") formula_reading c.formulas.left c.in_ok-left.left (spec_tokens c.args.bytes.now c.formulas.rest.now) (spec_tokens c.args.bytes.now c.in-Some.next.now) (spec_tokens c.args.bytes.now c.in_ok-further.behind.now) c.in_ok-push-2.ensures.items c.in_ok-left.ensures.value (sym c.in-Some.ensures.value) c.in_ok-further.ensures.reading
