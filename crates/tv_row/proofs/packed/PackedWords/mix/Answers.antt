use Rattle.std.proofs.Common.{◌∙◌, fold, ap}
use Rattle.tv_row.specs.Mixed.{word_mixed}
use Rattle.tv_row.specs.Packed.{packed}
use Rattle.tv_row.proofs.PackedLaws.{packed_back, seen_long}
use Rattle.tv_row.proofs.packed.PackedWords.mix.Goals as goal

pub returns-clause-value : goal.returns-clause-value
returns-clause-value c =
    c.mix_words.ensures
    ∙ ap (fold word_mixed c.args.hash)
    (c.deref.ensures.value ∙ packed_back c.self.inside.items.items c.self.inside.cells c.self.inside.count c.self.invariant ∙ ap packed c.self.view_is)

pub returns-clause-words : goal.returns-clause-words
returns-clause-words c = seen_long c.self.inside.items.items c.self.inside.cells c.self.inside.count c.args.self.now c.self.view_is
