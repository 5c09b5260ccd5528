use Rattle.std.proofs.Common.{length, sym}
use Rattle.std.proofs.lemmas.List.{length-map}
use Rattle.tv_coerce_members.specs.Members.{member_of, members_of}
use Rattle.tv_coerce_members.proofs.Gathering.{all-steps}
use Rattle.tv_coerce_members.proofs.levels.level_of.Goals as goal

pub returns : goal.returns
returns c =
    all-steps (members_of c.args.members.now) c.args.left c.args.last (length c.args.members.now) _ _ _ c.new-steps.ensures
    (sym (length-map c.args.members.now member_of)) c.in_ok-push_steps.ensures c.in_ok-push_steps-2.ensures
