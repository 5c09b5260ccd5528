use Rattle.std.proofs.Common.{ℕ, map, sym, ◌∙◌, arith}
use Rattle.std.specs.Global.{Vec}
use Rattle.std.proofs.lemmas.Bool.{OnTrue_at}
use Rattle.std.proofs.lemmas.List.{length-map}
use Rattle.tv_vocab.proofs.CycleLaws.{found_where_cycle, none_where_no_cycle}
use Rattle.tv_vocab.proofs.WalkLaws.{first_marks, none_found}
use Rattle.tv_vocab.proofs.walk.finds_cycle.Goals as goal

pub loop-pred-init : goal.loop-pred-init
loop-pred-init c =
    let uses = map (λ (one : Vec ℕ). one.items) c.args.uses.now in
    (first_marks uses c.in_ok-walk.walk.marks.items (c.in_ok-walk.ensures.count ∙ sym (length-map c.args.uses.now (λ (one : Vec ℕ). one.items))) c.in_ok-walk.ensures.unseen, c.in_ok-walk.ensures.path, λ p lt. absurd (omega (arith, lt)))

pub returns-then-branch : goal.returns-then-branch
returns-then-branch c = sym (found_where_cycle (map (λ (one : Vec ℕ). one.items) c.args.uses.now) (OnTrue_at c.if-branch.true c.in_ok-visit.ensures.cycle))

pub returns : goal.returns
returns c =
    let uses = map (λ (one : Vec ℕ). one.items) c.args.uses.now in
    let past = c.loop-pred-test.false in
    sym (none_where_no_cycle uses (none_found uses c.loop-pred.walk.marks.items c.loop-pred.invariant.0
    (λ p lt. c.loop-pred.invariant.2 p (omega (arith, lt, past, length-map c.args.uses.now (λ (one : Vec ℕ). one.items))))))
