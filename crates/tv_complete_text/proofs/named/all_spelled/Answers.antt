use Rattle.std.proofs.Common.{◌∙◌, ap, arith, map, sym, take_all}
use Rattle.tv_model.proofs.Lists.{map-compose}
use Rattle.tv_tvs.specs.Tree.{name_text}
use Rattle.tv_complete_text.specs.Named.{entry_name_tree}
use Rattle.tv_complete_text.specs.declared.named.EntryName.{EntryName}
use Rattle.tv_complete_text.proofs.named.all_spelled.Goals as goal

pub returns : goal.returns
returns c =
    c.loop-entry.invariant
    ∙ ap (map (λ (entry : EntryName). name_text (entry_name_tree c.args.bytes.now entry)))
    (take_all c.loop-entry.entry-index c.args.entries.now (omega (arith, c.loop-entry-test.false)))
    ∙ sym (map-compose (entry_name_tree c.args.bytes.now) name_text c.args.entries.now)
