use Rattle.std.proofs.Common.{◌*◌, ◌/◌, ◌∙◌, [], length, ap, arith}
use Rattle.std.proofs.lemmas.List.{get_or_read}
use Rattle.tv_row.specs.Packed.{PackedForm}
use Rattle.tv_row.specs.Places.{word_at}
use Rattle.tv_row.proofs.PackedLaws.{fills_some, seen_place_small, seen_item_within, seen_many, word_is}
use Rattle.tv_row.proofs.WordOps.{length-padded}
use Rattle.tv_row.proofs.packed.PackedWords.word.Goals as goal

pub overflow_mul-start : goal.overflow_mul-start
overflow_mul-start c = omega (arith, seen_place_small c.self.inside.items.items c.self.inside.cells c.self.inside.count c.args.self.now c.self.view_is c.self.invariant c.args.place c.requires)

pub index-requires : goal.index-requires
index-requires c =
    omega (arith, c.self.inside.items.ok, seen_item_within c.self.inside.items.items c.self.inside.cells c.self.inside.count c.args.self.now c.self.view_is c.self.invariant c.args.place c.requires)

pub returns-clause-value : goal.returns-clause-value
returns-clause-value c =
    word_is c.self.inside.items.items c.self.inside.cells c.self.inside.count c.self.invariant c.args.place c.first.result c.from.result c.index.result.now
    (omega (arith, c.requires, seen_many c.self.inside.items.items c.self.inside.cells c.self.inside.count c.args.self.now c.self.view_is)) c.first.ensures c.from.ensures.long
    (get_or_read c.self.inside.items.items ((c.args.place * c.self.inside.cells) / 64) c.index.result.now
    (seen_item_within c.self.inside.items.items c.self.inside.cells c.self.inside.count c.args.self.now c.self.view_is c.self.invariant c.args.place c.requires) c.index.ensures [])
    c.from.ensures.values
    ∙ ap (λ (f : PackedForm). word_at f.words c.args.place) c.self.view_is

pub returns-clause-long : goal.returns-clause-long
returns-clause-long c =
    ap length c.first.ensures
    ∙ length-padded c.self.inside.cells c.from.result (fills_some c.self.inside.cells c.self.invariant.fills).1 c.from.ensures.long
