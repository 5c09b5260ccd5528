use Rattle.std.proofs.Common.{◌∙◌, ap, refl, length, sym}
use Rattle.std.specs.Option.{option_map}
use Rattle.std.proofs.lemmas.Bool.{false≢true}
use Rattle.std.proofs.lemmas.Option.{slice_get-map, slice_get_read}
use Rattle.tv_coerce_members.specs.Members.{member_of, members_of}
use Rattle.tv_coerce_members.proofs.Gathering.{one-pushed, none-pushed}
use Rattle.tv_coerce_members.proofs.levels.push_step.Goals as goal

pub returns-in_ok-push : goal.returns-in_ok-push
returns-in_ok-push c =
    let ms = c.args.members.now
    in let m = c.index-members-number.result
    in let at = slice_get-map member_of ms c.args.number
    ∙ ap (option_map member_of) (slice_get_read ms (length ms) c.args.number m refl c.requires c.index-members-number.is)
    in one-pushed (members_of ms) c.args.left c.args.last c.args.other c.args.number (member_of m)
    (record { member = c.args.number; reading = m.reading; literal = c.is_literal.result }) c.args.steps.now c.push.new.self at
    (c.if-is_tested_at.ensures.0 refl) refl refl (sym c.is_literal.ensures) c.in_ok-push.ensures

pub returns-else-is_tested_at : goal.returns-else-is_tested_at
returns-else-is_tested_at c =
    let ms = c.args.members.now
    in let m = c.index-members-number.result
    in let at = slice_get-map member_of ms c.args.number
    ∙ ap (option_map member_of) (slice_get_read ms (length ms) c.args.number m refl c.requires c.index-members-number.is)
    in none-pushed (members_of ms) c.args.left c.args.last c.args.other c.args.number (member_of m) c.args.steps.now c.args.steps.now at
    (λ is. false≢true (c.if-is_tested_at.ensures.1 is)) refl
