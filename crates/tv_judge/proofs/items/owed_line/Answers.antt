use Rattle.std.proofs.Common.{◌∙◌, sym, ap}
use Rattle.std.specs.Option.{option_map}
use Rattle.tv_listing.specs.ListingForm.{at_node}
use Rattle.tv_structure_form.specs.StructureForm.{arities_of}
use Rattle.tv_judge.proofs.Reports.{listed-alike, own-line-for}
use Rattle.tv_judge.proofs.items.owed_line.Goals as goal

pub is_covered_by-requires-clause-vocabulary : goal.is_covered_by-requires-clause-vocabulary
is_covered_by-requires-clause-vocabulary c =
    listed-alike c.args.x.now.program.now c.args.x.now.analysis.now.listing c.args.node
    (arities_of c.args.s.now)
    c.requires.ready.listing c.requires.node c.requires.over

pub returns-clause-some : goal.returns-clause-some
returns-clause-some c =
    own-line-for c.args.x.now.analysis.now.maps c.args.item
    (at_node c.args.x.now.analysis.now.listing c.args.node) c.args.s.now
    c.in-Some.line.now c.in_ok-copied.field-0
    (sym (c.requires.ready.lines c.args.item) ∙ sym c.line_of.ensures
    ∙ ap (option_map (λ l. l.now)) c.in-Some.is)
    c.in_ok-copied.ensures
    (c.is_covered_by.ensures.0 c.if-not-is_covered_by.false)
