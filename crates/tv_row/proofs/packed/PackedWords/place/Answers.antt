use Rattle.std.proofs.Common.{◌+◌, ◌*◌, ◌/◌, ◌%◌, ap, sym, arith}
use Rattle.tv_row.proofs.PackedLaws.{seen_place_small, seen_many, seen_cells}
use Rattle.tv_row.proofs.packed.PackedWords.place.Goals as goal

pub overflow_add-result : goal.overflow_add-result
overflow_add-result c =
    omega (arith, c.requires.word, seen_many c.self.inside.items.items c.self.inside.cells c.self.inside.count c.args.self.now c.self.view_is, c.self.invariant.few)

pub overflow_mul-result : goal.overflow_mul-result
overflow_mul-result c =
    omega (arith, seen_place_small c.self.inside.items.items c.self.inside.cells c.self.inside.count c.args.self.now c.self.view_is c.self.invariant (c.args.start + c.args.column / 64) c.requires.word)

pub overflow_add-result-2 : goal.overflow_add-result-2
overflow_add-result-2 c =
    omega (arith, seen_place_small c.self.inside.items.items c.self.inside.cells c.self.inside.count c.args.self.now c.self.view_is c.self.invariant (c.args.start + c.args.column / 64) c.requires.word)

pub returns : goal.returns
returns c =
    ap (λ n. (c.args.start + c.args.column / 64) * n + c.args.column % 64) (sym (seen_cells c.self.inside.items.items c.self.inside.cells c.self.inside.count c.args.self.now c.self.view_is))
