use Rattle.std.proofs.Common.{[], ◌∷◌, ◌++◌}
use Rattle.tv_focus.specs.Seen.{aim_of}
use Rattle.tv_focus_walk.proofs.Coercing.{can-coerce, rest-waits}
use Rattle.tv_focus_walk.proofs.Foretelling.{found-table, none-refutes, some-leads, some-ready}
use Rattle.tv_focus_walk.proofs.narrow.narrowed.Goals as goal

pub returns-then-not-is_worth-clause-outlook : goal.returns-then-not-is_worth-clause-outlook
returns-then-not-is_worth-clause-outlook c = (c.requires.ready, λ choice begins above. above)

pub coerce_in_place-requires-clause-ready : goal.coerce_in_place-requires-clause-ready
coerce_in_place-requires-clause-ready c =
    can-coerce c.args.w.now c.args.scratch.now c.args.given.structure c.requires.can c.requires.ready.so.over
    c.requires.ready.so.is

pub coerce_in_place-requires-clause-count : goal.coerce_in_place-requires-clause-count
coerce_in_place-requires-clause-count c = c.in_ok-waiting.ensures.count

pub coerce_in_place-requires-clause-rest : goal.coerce_in_place-requires-clause-rest
coerce_in_place-requires-clause-rest c =
    rest-waits c.args.w.now c.args.given.since c.args.given.structure _ c.requires.ready.rest c.in_ok-waiting.ensures

pub returns-in-None-clause-outlook : goal.returns-in-None-clause-outlook
returns-in-None-clause-outlook c =
    none-refutes c.args.w.now c.args.scratch.now (c.args.begun.now ++ c.args.set.now ∷ []) c.args.given.structure
    (aim_of c.args.given.aim) c.args.given.since c.in_ok-coerce_in_place.field-0 c.requires.can c.requires.ready
    c.in_ok-coerce_in_place.ensures.exact c.in-None.is

pub returns-in-Some-clause-outlook : goal.returns-in-Some-clause-outlook
returns-in-Some-clause-outlook c =
    let w = c.args.w.now
    in let next = c.args.begun.now ++ c.args.set.now ∷ []
    in let table = found-table w c.args.given.structure c.in-Some.structure c.in_ok-coerce_in_place.field-0
    c.in_ok-coerce_in_place.ensures.exact c.in-Some.is
    in (
      some-ready w c.args.scratch.now next c.args.given.structure c.in-Some.structure (aim_of c.args.given.aim)
          c.args.given.since c.nothing.result c.requires.can c.requires.ready table,
      some-leads w c.args.scratch.now next c.args.given.structure c.in-Some.structure (aim_of c.args.given.aim)
          c.args.given.since c.requires.can c.requires.ready table,
    )
