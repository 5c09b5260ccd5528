use Rattle.std.proofs.Common.{◌*◌, [], ap, sym, ◌∙◌, arith}
use Rattle.std.proofs.lemmas.List.{get_or_read}
use Rattle.tv_row.proofs.PackedLaws.{seen_whole, seen_many, seen_cells}
use Rattle.tv_row.proofs.packed.PackedWords.whole.Goals as goal

pub index-requires : goal.index-requires
index-requires c =
    omega (
      arith,
      c.requires.place,
      seen_many c.self.inside.items.items c.self.inside.cells c.self.inside.count c.args.self.now c.self.view_is,
      c.self.inside.items.ok,
      c.self.invariant.as_many,
      ap (λ n. c.self.inside.count * n) (sym (seen_cells c.self.inside.items.items c.self.inside.cells c.self.inside.count c.args.self.now c.self.view_is) ∙ c.requires.room),
    )

pub returns : goal.returns
returns c =
    seen_whole c.self.inside.items.items c.self.inside.cells c.self.inside.count c.args.self.now c.self.view_is c.self.invariant c.args.place c.index.result.now c.requires.place c.requires.room
    (get_or_read c.self.inside.items.items c.args.place c.index.result.now
    (omega (
      arith,
      c.requires.place,
      seen_many c.self.inside.items.items c.self.inside.cells c.self.inside.count c.args.self.now c.self.view_is,
      c.self.invariant.as_many,
      ap (λ n. c.self.inside.count * n) (sym (seen_cells c.self.inside.items.items c.self.inside.cells c.self.inside.count c.args.self.now c.self.view_is) ∙ c.requires.room),
    )) c.index.ensures [])
