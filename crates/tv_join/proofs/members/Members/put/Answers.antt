use Rattle.std.proofs.Common.{◌∙◌, sym}
use Rattle.tv_join.proofs.members.Members.put.Goals as goal

pub join_at-requires-clause-key : goal.join_at-requires-clause-key
join_at-requires-clause-key c =
    c.requires.can.2.only c.in-Some.place c.args.s c.in_ok-key.key c.in_ok-key.ensures (sym c.place_of.ensures ∙ c.in-Some.is)

pub push-requires-clause-none : goal.push-requires-clause-none
push-requires-clause-none c = sym c.place_of.ensures ∙ c.in-None.is
