use Rattle.std.proofs.Common.{◌≡◌, ◌∙◌, length, map, get_or, [], ap, refl, List}
use Rattle.tv_kleene.specs.declared.K3.{K3}
use Rattle.tv_kleene.specs.declared.K3.TheVariants.{No}
use Rattle.tv_kleene.specs.Kleene.{smaller_of, larger_of}
use Rattle.tv_row.specs.Bits.{paired}
use Rattle.tv_row.specs.Places.{entry_in}
use Rattle.tv_quantifiers.proofs.RowLaws.{put_square, put_here, extended_row, extended_long}
use Rattle.tv_quantifiers.proofs.relation.Relation.extend.Goals as goal

pub returns-clause-row : goal.returns-clause-row
returns-clause-row c = λ w lt.
    let row : List K3 = get_or c.args.self.now c.args.u []
    in let is : c.or.result ≡ paired larger_of row
    (map (smaller_of c.get-k.result) (get_or c.args.self.now c.args.stop [])) =
    c.or.ensures ∙ (rw (c.row-row.ensures, c.capped-past.ensures, c.row.ensures) refl)
    in let long : length c.or.result ≡ c.args.size = ap length is
    ∙ extended_long c.args.self.now c.args.size c.args.u c.args.stop c.get-k.result c.requires.square
    c.requires.from c.requires.stop
    in ap (λ rows. entry_in rows c.args.u w) c.put_row.ensures
    ∙ put_here c.args.self.now c.args.size c.args.u c.or.result c.requires.square c.requires.from long w
    ∙ ap (λ r. get_or r w No) is
    ∙ extended_row c.args.self.now c.args.size c.args.u c.args.stop w c.get-k.result c.requires.square c.requires.from
    c.requires.stop lt c.get-k.ensures

pub returns-clause-square : goal.returns-clause-square
returns-clause-square c =
    let row : List K3 = get_or c.args.self.now c.args.u []
    in let is : c.or.result ≡ paired larger_of row
    (map (smaller_of c.get-k.result) (get_or c.args.self.now c.args.stop [])) =
    c.or.ensures ∙ (rw (c.row-row.ensures, c.capped-past.ensures, c.row.ensures) refl)
    in rw c.put_row.ensures
    (put_square c.args.self.now c.args.size c.args.u c.or.result c.requires.square c.requires.from
    (ap length is ∙ extended_long c.args.self.now c.args.size c.args.u c.args.stop c.get-k.result
    c.requires.square c.requires.from c.requires.stop))
