use Rattle.std.proofs.Common.{◌≡◌, ◌∙◌, length, [], ap, sym, arith, get_or}
use Rattle.tv_quantifiers.proofs.Keeping.{any-default}
use Rattle.tv_eval.proofs.Keeping.{keeps_one_more}
use Rattle.tv_eval.proofs.kept.Kept.offer.Goals as goal

pub returns-clause-kept : goal.returns-clause-kept
returns-clause-kept c = λ s a keeps over held.
    keeps_one_more s a c.args.self.now c.args.rooms.now c.args.self.now.next _ c.args.edges
    c.swap.new.x keeps (omega arith) (omega arith) (c.is_closed.ensures.0 c.if-not-is_closed.false) over
    (rw c.swap.ensures.x_after held)

pub returns-clause-unchanged : goal.returns-clause-unchanged
returns-clause-unchanged c = λ none.
    let read : get_or c.args.rooms.now c.args.self.now.next [] ≡ get_or c.args.rooms.now c.args.self.now.next
    c.index-rooms-place.result =
    any-default c.args.rooms.now c.args.self.now.next [] c.index-rooms-place.result (omega arith)
    in absurd (none (record {
      place = omega arith;
      room = omega arith;
      size = ap length read ∙ sym c.size.ensures ∙ c.if-size.false ∙ c.size-2.ensures;
      own = c.is_closed.ensures.0 c.if-not-is_closed.false;
    }))
