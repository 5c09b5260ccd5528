use Rattle.std.proofs.Common.{ℕ, List, map, subst, sym, arith}
use Rattle.tv_model.specs.Program.{rule_of}
use Rattle.tv_rules.specs.Closing.{closed_set}
use Rattle.tv_rules.specs.Noting.{AreBasesWith}
use Rattle.tv_rules.proofs.KeptLemmas.{watched-more}
use Rattle.tv_rules.proofs.NotingLaws.{read-at}
use Rattle.tv_rules.proofs.closed.watch_lists.Goals as goal

pub loop-q-preserved : goal.loop-q-preserved
loop-q-preserved c =
    watched-more (closed_set (map rule_of c.args.bases.now)) c.loop-q.q c.loop-q.lists c.push.new.self c.in_ok-standing.field-0
    c.loop-q.invariant c.in_ok-standing.ensures c.in_ok-push.ensures

pub standing-requires-clause-with : goal.standing-requires-clause-with
standing-requires-clause-with c =
    let Of : List ℕ → Type 0 = λ ns. AreBasesWith c.loop-q.q (map rule_of c.args.bases.now) ns
    in subst Of (sym c.as_slice-of_bases.ensures)
    (c.in_ok-with.ensures.lists c.loop-q.q c.index.result.now
    (read-at c.in_ok-with.with.items c.loop-q.q c.index.result.now
    (omega (arith, c.loop-q-test.true, c.in_ok-with.ensures.count)) c.index.ensures))
