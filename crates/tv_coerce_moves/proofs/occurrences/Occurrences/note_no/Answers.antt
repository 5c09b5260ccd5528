use Rattle.std.proofs.Common.{arith, false, slice_set, subst}
use Rattle.std.proofs.lemmas.Option.{slice_get_read}
use Rattle.tv_coerce_moves.specs.Moves.{Turns}
use Rattle.tv_coerce_moves.specs.Occurrences.{AreNoted, lists_of}
use Rattle.tv_coerce_moves.proofs.NotedLaws.{noted-no, on-ok}
use Rattle.tv_coerce_moves.proofs.occurrences.Occurrences.note_no.Goals as goal

pub returns : goal.returns
returns c =
    let s = c.self.inside
    in on-ok c.note.result
    (λ noted. subst (λ old. AreNoted (λ head. Turns head false c.args.p.0) c.args.member old
    (lists_of s.to_yes.items (slice_set s.to_no.items c.args.p.0 c.note.new.self) s.ordinary)) c.self.view_is
    (noted-no c.args.p.0 c.args.member s.to_yes.items s.to_no.items s.ordinary c.index_mut-list.result.now c.note.new.self
    (slice_get_read s.to_no.items c.len.result c.args.p.0 c.index_mut-list.result.now (omega (arith, c.len.ensures))
    c.if-place-len.false c.index_mut-list.ensures.value) noted)) c.note.ensures
