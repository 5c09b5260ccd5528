use Rattle.std.proofs.Common.{◌*◌, ◌/◌, [], arith}
use Rattle.std.proofs.lemmas.List.{get_or_read}
use Rattle.tv_row.proofs.PackedLaws.{seen_place_small, seen_item_within, seen_front}
use Rattle.tv_row.proofs.packed.PackedWords.front.Goals as goal

pub overflow_mul-at : goal.overflow_mul-at
overflow_mul-at c = omega (arith, seen_place_small c.self.inside.items.items c.self.inside.cells c.self.inside.count c.args.self.now c.self.view_is c.self.invariant c.args.place c.requires)

pub index-requires : goal.index-requires
index-requires c =
    omega (arith, c.self.inside.items.ok, seen_item_within c.self.inside.items.items c.self.inside.cells c.self.inside.count c.args.self.now c.self.view_is c.self.invariant c.args.place c.requires)

pub returns-clause-values : goal.returns-clause-values
returns-clause-values c = λ i lt.
    seen_front c.self.inside.items.items c.self.inside.cells c.self.inside.count c.args.self.now c.self.view_is c.self.invariant c.args.place c.index.result.now c.from.result c.requires
    (get_or_read c.self.inside.items.items ((c.args.place * c.self.inside.cells) / 64) c.index.result.now
    (seen_item_within c.self.inside.items.items c.self.inside.cells c.self.inside.count c.args.self.now c.self.view_is c.self.invariant c.args.place c.requires) c.index.ensures [])
    c.from.ensures.values i lt
