use Rattle.std.proofs.Common.{arith, slice_set, subst, true}
use Rattle.std.proofs.lemmas.Option.{slice_get_read}
use Rattle.tv_coerce_moves.specs.Moves.{Turns}
use Rattle.tv_coerce_moves.specs.Occurrences.{AreNoted, lists_of}
use Rattle.tv_coerce_moves.proofs.NotedLaws.{noted-yes, on-ok}
use Rattle.tv_coerce_moves.proofs.occurrences.Occurrences.note_yes.Goals as goal

pub returns : goal.returns
returns c =
    let s = c.self.inside
    in on-ok c.note.result
    (λ noted. subst (λ old. AreNoted (λ head. Turns head true c.args.p.0) c.args.member old
    (lists_of (slice_set s.to_yes.items c.args.p.0 c.note.new.self) s.to_no.items s.ordinary)) c.self.view_is
    (noted-yes c.args.p.0 c.args.member s.to_yes.items s.to_no.items s.ordinary c.index_mut-list.result.now c.note.new.self
    (slice_get_read s.to_yes.items c.len.result c.args.p.0 c.index_mut-list.result.now (omega (arith, c.len.ensures))
    c.if-place-len.false c.index_mut-list.ensures.value) noted)) c.note.ensures
