use Rattle.std.proofs.Common.{subst}
use Rattle.tv_coerce_moves.specs.Moves.{IsEquality}
use Rattle.tv_coerce_moves.specs.Occurrences.{AreNoted, lists_of}
use Rattle.tv_coerce_moves.proofs.NotedLaws.{noted-ordinary, on-ok}
use Rattle.tv_coerce_moves.proofs.occurrences.Occurrences.note_ordinary.Goals as goal

pub returns : goal.returns
returns c =
    let s = c.self.inside
    in on-ok c.note.result
    (λ noted. subst (λ old. AreNoted IsEquality c.args.member old (lists_of s.to_yes.items s.to_no.items c.note.new.self)) c.self.view_is
    (noted-ordinary c.args.member s.to_yes.items s.to_no.items s.ordinary c.note.new.self noted)) c.note.ensures
