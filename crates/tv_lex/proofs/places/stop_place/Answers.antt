use Rattle.std.proofs.Common.{length, refl}
use Rattle.std.proofs.lemmas.Option.{slice_get_read}
use Rattle.tv_lex.proofs.PlaceLemmas.{start_within}
use Rattle.tv_lex.proofs.places.stop_place.Goals as goal

pub place-requires-clause-place : goal.place-requires-clause-place
place-requires-clause-place c =
    let tokens = c.args.tokens.now in
    let i = c.saturating_sub-read.result in
    let found = c.in-Some.ensures.lookup in
    start_within 0 (length c.args.bytes.now) i tokens c.in-Some.token.now c.requires.order (slice_get_read tokens (length tokens) i c.in-Some.token.now refl found.3.0 found.1)
