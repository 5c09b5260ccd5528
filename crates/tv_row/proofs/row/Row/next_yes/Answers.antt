use Rattle.std.proofs.Common.{◌≡◌, ◌≢◌, arith, []}
use Rattle.std.proofs.lemmas.List.{get_or_default}
use Rattle.tv_kleene.specs.declared.K3.TheVariants.{Yes}
use Rattle.tv_row.proofs.RowOps.{first_in_word, first_yes_seen, place_below, length_seen}
use Rattle.tv_row.proofs.row.Row.next_yes.Goals as goal

pub first_yes-requires : goal.first_yes-requires
first_yes-requires c = omega (arith, c.requires, c.if-self-le64.true, length_seen _ _ _ c.self.view_is)

pub returns-then-self-le64 : goal.returns-then-self-le64
returns-then-self-le64 c =
    first_yes_seen c.self.inside.words c.self.inside.size 1 c.args.from c.args.self.now c.self.invariant
    c.self.view_is (omega (arith, c.if-self-le64.true))
    (omega arith) c.first_yes.result
    (first_in_word c.self.inside.words _ c.args.from (λ k. k ≡ Yes) (λ k. k ≢ Yes) c.first_yes.result
    (get_or_default c.self.inside.words 0 c.index-self-0.result [] (omega (arith, c.self.invariant.as_many)))
    c.first_yes.ensures)

pub next_yes-requires-clause-from : goal.next_yes-requires-clause-from
next_yes-requires-clause-from c =
    omega (arith, c.requires, c.div_ceil-width.ensures, length_seen _ _ _ c.self.view_is)

pub as_place-requires : goal.as_place-requires
as_place-requires c =
    place_below _ _ _ c.args.from _ c.self.invariant c.self.view_is (omega (arith, c.div_ceil-width.ensures))
    (omega (arith, c.div_ceil-width.ensures, c.self.invariant.small)) _ _ _ c.next_yes.ensures

pub returns : goal.returns
returns c =
    rw c.as_place.ensures (first_yes_seen _ _ _ c.args.from _ c.self.invariant c.self.view_is
    (omega (arith, c.div_ceil-width.ensures)) (omega (
      arith,
      c.div_ceil-width.ensures,
      c.self.invariant.small,
    )) _ c.next_yes.ensures)
