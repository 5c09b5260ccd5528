use Rattle.std.proofs.Common.{◌∙◌, ap, length, map, sym}
use Rattle.std.proofs.lemmas.List.{length-map}
use Rattle.tv_complete_text.specs.Named.{named_form}
use Rattle.tv_complete_text.proofs.Weaving.{as-many}
use Rattle.tv_complete_text.proofs.text.completion.Goals as goal

pub all_completed-requires-clause-count : goal.all_completed-requires-clause-count
all_completed-requires-clause-count c =
    ap length c.deref.ensures.value
    ∙ sym (length-map c.in_ok-named.named.items (named_form c.args.bytes.now))
    ∙ as-many c.args.program.now c.args.bytes.now c.args.tokens.now c.args.given.now c.requires.means
    (map (named_form c.args.bytes.now) c.in_ok-named.named.items) c.in_ok-named.ensures

pub woven-requires-clause-count : goal.woven-requires-clause-count
woven-requires-clause-count c =
    ap length c.deref-2.ensures.value
    ∙ sym (length-map c.in_ok-named.named.items (named_form c.args.bytes.now))
    ∙ as-many c.args.program.now c.args.bytes.now c.args.tokens.now c.args.given.now c.requires.means
    (map (named_form c.args.bytes.now) c.in_ok-named.named.items) c.in_ok-named.ensures
    ∙ sym (ap length c.as_slice.ensures ∙ c.in_ok-structures.ensures.count)
