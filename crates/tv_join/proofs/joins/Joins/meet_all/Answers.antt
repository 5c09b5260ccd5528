use Rattle.std.proofs.Common.{ℕ, ◌≡◌, List, Bool, MatchBool, length, rules, sym, subst, ◌∙◌, arith, None}
use Rattle.std.proofs.Common.{Some}
use Rattle.std.proofs.lemmas.Iterator.Adapters.{YieldsList-from_vec}
use Rattle.std.proofs.lemmas.Iterator.Consumers.{YieldsList-end, YieldsList-turn}
use Rattle.std.proofs.lemmas.List.{map-id}
use Rattle.std.proofs.lemmas.List.Elements.{All-contains}
use Rattle.tv_model.specs.Program.{program_of}
use Rattle.tv_join.specs.Keyed.{AreFlags}
use Rattle.tv_join.specs.Members.{IsIndexed}
use Rattle.tv_join.specs.State.{IsMet, members_at}
use Rattle.tv_join.specs.Stepped.{HaveMet, IsPlacedFound}
use Rattle.tv_work.specs.Task.{task_of}
use Rattle.tv_join.proofs.KeyLaws.{flags-fit}
use Rattle.tv_join.proofs.Meeting.{met-none, met-next, room-none, room-some}
use Rattle.tv_join.proofs.joins.Joins.meet_all.Goals as goal

pub loop-f-init : goal.loop-f-init
loop-f-init c = met-none (task_of c.args.x.now.task) c.args.self.now c.requires.kept c.requires.none

pub meet-requires-clause-node : goal.meet-requires-clause-node
meet-requires-clause-node c =
    let turn = YieldsList-turn
    (YieldsList-from_vec {s = c.into_iter-f-iterator.result} c.args.found.items (search rules) (search rules))
    c.loop-f.yielded c.loop-f.f-iterator c.loop-f.yielded_by c.next.result c.next.new.self c.in-Some.f c.in-Some.is
    c.next.ensures.steps
    in let placed = All-contains (IsPlacedFound (task_of c.args.x.now.task)) c.args.found.items c.in-Some.f
    c.requires.placed
    (length c.loop-f.yielded, turn.0, sym turn.1)
    in omega (arith, placed.node, c.loop-f.invariant.met.kept.nodes)

pub meet-requires-clause-flags : goal.meet-requires-clause-flags
meet-requires-clause-flags c =
    let turn = YieldsList-turn
    (YieldsList-from_vec {s = c.into_iter-f-iterator.result} c.args.found.items (search rules) (search rules))
    c.loop-f.yielded c.loop-f.f-iterator c.loop-f.yielded_by c.next.result c.next.new.self c.in-Some.f c.in-Some.is
    c.next.ensures.steps
    in let placed = All-contains (IsPlacedFound (task_of c.args.x.now.task)) c.args.found.items c.in-Some.f
    c.requires.placed
    (length c.loop-f.yielded, turn.0, sym turn.1)
    in subst (λ (flags : List Bool). AreFlags flags c.in-Some.f.structure) (sym c.requires.flags)
    (flags-fit (program_of c.args.x.now.task.program.now) c.in-Some.f.structure placed.plain)

pub meet-requires-clause-unmarked : goal.meet-requires-clause-unmarked
meet-requires-clause-unmarked c =
    let turn = YieldsList-turn
    (YieldsList-from_vec {s = c.into_iter-f-iterator.result} c.args.found.items (search rules) (search rules))
    c.loop-f.yielded c.loop-f.f-iterator c.loop-f.yielded_by c.next.result c.next.new.self c.in-Some.f c.in-Some.is
    c.next.ensures.steps
    in let placed = All-contains (IsPlacedFound (task_of c.args.x.now.task)) c.args.found.items c.in-Some.f
    c.requires.placed
    (length c.loop-f.yielded, turn.0, sym turn.1)
    in placed.plain.unmarked

pub meet-requires-clause-indexed : goal.meet-requires-clause-indexed
meet-requires-clause-indexed c =
    subst (λ (flags : List Bool). IsIndexed flags (members_at c.loop-f.self.nodes c.in-Some.f.node))
    (sym c.requires.flags)
    (c.loop-f.invariant.met.kept.each c.in-Some.f.node).indexed

pub loop-f-preserved : goal.loop-f-preserved
loop-f-preserved c =
    let t = task_of c.args.x.now.task
    in let turn = YieldsList-turn
    (YieldsList-from_vec {s = c.into_iter-f-iterator.result} c.args.found.items (search rules) (search rules))
    c.loop-f.yielded c.loop-f.f-iterator c.loop-f.yielded_by c.next.result c.next.new.self c.in-Some.f c.in-Some.is
    c.next.ensures.steps
    in let placed = All-contains (IsPlacedFound t) c.args.found.items c.in-Some.f c.requires.placed
    (length c.loop-f.yielded, turn.0, sym turn.1)
    in met-next t c.requires.valid c.args.self.now c.loop-f.self c.meet.new.self c.loop-f.yielded c.in-Some.f
    c.requires.kept c.loop-f.invariant
    placed
    (subst (λ (flags : List Bool). IsMet flags c.loop-f.self c.in-Some.f.node c.in-Some.f.structure c.meet.new.self)
    c.requires.flags c.in_ok-meet.ensures)

pub returns-then-is_over-clause-cause : goal.returns-then-is_over-clause-cause
returns-then-is_over-clause-cause c =
    let t = task_of c.args.x.now.task
    in let over = subst (λ b. MatchBool b (c.loop-f.self.room ≡ None) ((more : ℕ) × (c.loop-f.self.room ≡ Some more)))
    c.if-is_over.true c.is_over.ensures
    in let all = YieldsList-end
    (YieldsList-from_vec {s = c.into_iter-f-iterator.result} c.args.found.items (search rules) (search rules))
    c.loop-f.yielded c.loop-f.f-iterator c.loop-f.yielded_by c.next.result c.next.new.self c.in-None.is
    c.next.ensures.steps
    in (
      subst (λ fs. HaveMet t c.args.self.now fs c.loop-f.self) (sym (map-id c.loop-f.yielded) ∙ all.0)
          c.loop-f.invariant.met,
      room-none t c.loop-f.self c.loop-f.invariant.met.kept over,
    )

pub returns-clause-met : goal.returns-clause-met
returns-clause-met c =
    let t = task_of c.args.x.now.task
    in let all = YieldsList-end
    (YieldsList-from_vec {s = c.into_iter-f-iterator.result} c.args.found.items (search rules) (search rules))
    c.loop-f.yielded c.loop-f.f-iterator c.loop-f.yielded_by c.next.result c.next.new.self c.in-None.is
    c.next.ensures.steps
    in subst (λ fs. HaveMet t c.args.self.now fs c.loop-f.self) (sym (map-id c.loop-f.yielded) ∙ all.0)
    c.loop-f.invariant.met

pub returns-clause-within : goal.returns-clause-within
returns-clause-within c =
    let some = subst (λ b. MatchBool b (c.loop-f.self.room ≡ None) ((more : ℕ) × (c.loop-f.self.room ≡ Some more)))
    c.if-is_over.false c.is_over.ensures
    in room-some (task_of c.args.x.now.task) c.loop-f.self some.0 c.loop-f.invariant.met.kept some.1
