use Rattle.std.proofs.Common.{ℕ, List, Some, ◌≡◌, ◌-◌, ◌++◌, ◌∷◌, [], get_or, slice_get, arith, refl}
use Rattle.std.proofs.Common.{slice_set, subst, sym}
use Rattle.std.proofs.lemmas.Option.{slice_get_read}
use Rattle.tv_coerce_moves.specs.declared.list.Occurrence.{Occurrence}
use Rattle.tv_coerce_moves.specs.declared.list.Moving.TheVariants.{Alone}
use Rattle.tv_coerce_moves.specs.Occurrences.{IsAmong, IsNoted}
use Rattle.tv_coerce_moves.proofs.NotedLaws.{noted-pushed, noted-widened}
use Rattle.tv_coerce_moves.proofs.list.OccurrenceList.note.Goals as goal

pub returns-then-index-member : goal.returns-then-index-member
returns-then-index-member c =
    let items : List Occurrence = c.self.inside.occurrences.items
    in let k : ℕ = c.len-count.result - 1
    in let at : (m : Occurrence) → m ≡ get_or items k m → slice_get items k ≡ Some m
    = λ m is. slice_get_read items c.len-count.result k m (omega (arith, c.len-count.ensures)) (omega (arith, c.if-count-gt0.true)) is
    in let m : Occurrence = c.index_mut.result.now
    in let new : Occurrence = record { rule = m.rule; moving = c.with_place-moving.result }
    in let first : c.index.result.now ≡ m = cc (at c.index.result.now c.index.ensures, at m c.index_mut.ensures.value)
    in let then : c.index-then-index-member.result.now ≡ m
    = cc (at c.index-then-index-member.result.now c.index-then-index-member.ensures, at m c.index_mut.ensures.value)
    in subst (λ old. IsNoted c.args.member old (slice_set items k new)) c.self.view_is
    (noted-widened c.args.member items k m new (at m c.index_mut.ensures.value)
    (subst (λ (x : Occurrence). x.rule ≡ c.args.member.rule) first c.if-index-member.true) refl
    (λ place among. c.with_place-moving.ensures.kept place (subst (λ (x : Occurrence). IsAmong place x.moving) (sym then) among))
    c.with_place-moving.ensures.there)

pub returns : goal.returns
returns c =
    let new : Occurrence = record { rule = c.args.member.rule; moving = Alone c.args.member.place }
    in subst (IsNoted c.args.member c.args.self.now) (sym c.in_ok-push.ensures.items)
    (subst (λ old. IsNoted c.args.member old (c.self.inside.occurrences.items ++ new ∷ [])) c.self.view_is
    (noted-pushed c.args.member c.self.inside.occurrences.items new refl refl))
