use Rattle.std.proofs.Common.{◌≡◌, length}
use Rattle.std.specs.Prelude.{Some, slice_get}
use Rattle.tv_structure_form.specs.StructureForm.{arities_of}
use Rattle.tv_embed.proofs.AllowedLaws.{as_long, narrowed}
use Rattle.tv_embed.proofs.candidates.narrow.Goals as goal

pub and-requires : goal.and-requires
and-requires c =
    as_long c.args.large.now c.args.p.0 (length c.args.allowed.now) c.unary_row.result c.over-above.result c.requires.allowed.long
    c.unary_row.ensures c.over-above.ensures.long

pub returns : goal.returns
returns c =
    let unary : slice_get (arities_of c.args.small.now) c.args.p.0 ≡ Some 1 = rw c.if-arity-ne1.false at c.arity.ensures.value
    in narrowed c.args.small.now c.args.large.now c.args.u c.args.p.0 c.get.result c.args.allowed.now c.unary_row.result
    c.over-above.result c.and.result c.requires.allowed unary c.get.ensures c.unary_row.ensures c.over-above.ensures.long
    c.over-above.ensures.over c.and.ensures
