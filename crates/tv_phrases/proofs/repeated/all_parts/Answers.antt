use Rattle.std.proofs.Common.{◌≡◌, ◌∷◌, ◌++◌, [], map, ap, arith}
use Rattle.std.proofs.lemmas.Result.{err_from_is_err_and}
use Rattle.std.proofs.lemmas.List.{map_push, length-map}
use Rattle.tv_lex.specs.Token.{spec_token}
use Rattle.tv_phrases.proofs.Turns.{begun, one_more, fails, ends, runs_out}
use Rattle.tv_phrases.proofs.repeated.all_parts.Goals as goal

pub loop-init : goal.loop-init
loop-init g c = begun _ _ _ _ _ (ap (map (g.P.Part.tree c.args.bytes.now)) c.new-list.ensures.items)

pub returns-then-not-begins : goal.returns-then-not-begins
returns-then-not-begins g c =
    ends c.loop.invariant (omega (arith, length-map c.args.tokens.now (spec_token c.args.bytes.now))) (cc)

pub returns-in_err-part : goal.returns-in_err-part
returns-in_err-part g c =
    let p = err_from_is_err_and c.from_residual.result c.from_residual.ensures.1
    in rw (p.1, p.2)
    (fails c.in_err-part.field-0.0 c.loop.invariant
    (omega (arith, length-map c.args.tokens.now (spec_token c.args.bytes.now))) (cc) c.in_err-part.ensures)

pub loop-preserved : goal.loop-preserved
loop-preserved g c =
    let more : map (g.P.Part.tree c.args.bytes.now) c.push.new.self.items
    ≡ map (g.P.Part.tree c.args.bytes.now) c.loop.list.items
    ++ g.P.Part.tree c.args.bytes.now c.in_ok-part.part ∷ []
    = rw c.in_ok-push.ensures.items (map_push _ c.loop.list.items c.in_ok-part.part)
    in rw more
    (one_more c.loop.invariant (omega (arith, length-map c.args.tokens.now (spec_token c.args.bytes.now))) (cc)
    c.in_ok-part.ensures)

pub returns : goal.returns
returns g c = runs_out c.loop.invariant (omega (arith, length-map c.args.tokens.now (spec_token c.args.bytes.now)))
