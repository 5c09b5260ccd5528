use Rattle.std.proofs.Common.{◌+◌, ◌*◌, ◌/◌, ◌%◌, ◌∙◌, ap, sym, arith}
use Rattle.tv_row.specs.Packed.{PackedForm}
use Rattle.tv_row.specs.Places.{value_in}
use Rattle.tv_row.proofs.PackedLaws.{seen_place_within, seen_many, seen_cells, value_seen}
use Rattle.tv_row.proofs.packed.PackedWords.get.Goals as goal

pub get-requires : goal.get-requires
get-requires c =
    rw (c.place-at.ensures, seen_cells c.self.inside.items.items c.self.inside.cells c.self.inside.count c.args.self.now c.self.view_is, c.deref.ensures.value)
    (seen_place_within c.self.inside.items.items c.self.inside.cells c.self.inside.count c.args.self.now c.self.view_is c.self.invariant (c.args.start + c.args.column / 64) (c.args.column % 64) c.requires.word c.requires.room)

pub returns : goal.returns
returns c =
    c.get.ensures ∙ ap (λ ws. value_in ws 0 c.place-at.result) c.deref.ensures.value
    ∙ ap (value_in c.self.inside.items.items 0)
    (c.place-at.ensures ∙ ap (λ n. (c.args.start + c.args.column / 64) * n + c.args.column % 64) (seen_cells c.self.inside.items.items c.self.inside.cells c.self.inside.count c.args.self.now c.self.view_is))
    ∙ sym (value_seen c.self.inside.items.items c.self.inside.cells c.self.inside.count c.self.invariant c.args.start c.args.column
    (omega (arith, c.requires.word, seen_many c.self.inside.items.items c.self.inside.cells c.self.inside.count c.args.self.now c.self.view_is)) (omega (arith, c.requires.room, seen_cells c.self.inside.items.items c.self.inside.cells c.self.inside.count c.args.self.now c.self.view_is)))
    ∙ ap (λ (f : PackedForm). value_in f.words c.args.start c.args.column) c.self.view_is
