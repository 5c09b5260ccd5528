use Rattle.std.proofs.Common.{◌≡◌, ◌<◌, ◌/◌, ◌%◌, ◌==◌, ◌∙◌, Bool, List, if◌then◌else◌, get_or, set}
use Rattle.std.proofs.Common.{ap, arith}
use Rattle.std.proofs.lemmas.List.{get_or_read}
use Rattle.tv_row.specs.Bits.{bit}
use Rattle.tv_row.proofs.FlagLaws.{below_count, flag_put}
use Rattle.tv_row.proofs.flags.Flags.put.Goals as goal

pub index-requires : goal.index-requires
index-requires c =
    omega (
      arith,
      c.self.invariant.room,
      below_count c.self.inside.words.items c.self.inside.count c.args.number _ c.self.view_is c.requires,
    )

pub index_mut-requires : goal.index_mut-requires
index_mut-requires c =
    omega (
      arith,
      c.self.invariant.room,
      below_count c.self.inside.words.items c.self.inside.count c.args.number _ c.self.view_is c.requires,
    )

pub returns : goal.returns
returns c =
    let lt : c.args.number < c.self.inside.count
    = below_count c.self.inside.words.items c.self.inside.count c.args.number _ c.self.view_is c.requires
    in let read : c.index.result.now ≡ get_or c.self.inside.words.items (c.args.number / 64) 0
    = get_or_read c.self.inside.words.items (c.args.number / 64) c.index.result.now (omega (arith, lt, c.self.invariant.room)) c.index.ensures 0
    in flag_put c.self.inside.words.items c.self.inside.count c.args.number c.args.on c.with.result c.self.invariant lt
    (λ j low.
    c.with.ensures j low ∙ ap (λ word. if j == c.args.number % 64 then c.args.on else bit word j) read)
    ∙ ap (λ (flags : List Bool). set flags c.args.number c.args.on) c.self.view_is
