use Rattle.std.proofs.Common.{◌≡◌, ◌<◌, ◌∙◌, ◌+◌, subst, sym, ap, length, get_or, arith}
use Rattle.tv_blur.proofs.JoinLaws.{behind}
use Rattle.tv_blur.proofs.WordLaws.{joined_in_start, joined_in_step, joined_in_end}
use Rattle.tv_blur.proofs.words.joined_words.Goals as goal

pub loop-i-init : goal.loop-i-init
loop-i-init c =
    joined_in_start c.args.s.now c.args.p.0 c.args.members.now c.first.result c.word-joined.result c.requires.few
    c.word-joined.ensures.long c.word-joined.ensures.values c.first.ensures

pub word-requires-clause-individual : goal.word-requires-clause-individual
word-requires-clause-individual c =
    let member : get_or c.args.members.now (c.loop-i.i + 1) 0 ≡ get_or c.others-others.result.now c.loop-i.i 0
    = ap (λ us. get_or us (c.loop-i.i + 1) 0) c.others-others.ensures
    ∙ behind (get_or c.args.members.now 0 0) c.others-others.result.now c.loop-i.i
    in subst (λ u. u < c.args.s.now.size) member
    (c.requires.within (c.loop-i.i + 1) 0 (omega (arith, ap length c.others-others.ensures)))

pub loop-i-preserved : goal.loop-i-preserved
loop-i-preserved c =
    let member : get_or c.args.members.now (c.loop-i.i + 1) 0 ≡ get_or c.others-others.result.now c.loop-i.i 0
    = ap (λ us. get_or us (c.loop-i.i + 1) 0) c.others-others.ensures
    ∙ behind (get_or c.args.members.now 0 0) c.others-others.result.now c.loop-i.i
    in joined_in_step c.args.s.now c.args.p.0 c.args.members.now (c.loop-i.i + 1) (get_or c.others-others.result.now c.loop-i.i 0)
    c.loop-i.joined c.word.result c.join-joined.result c.requires.few
    c.loop-i.invariant c.word.ensures.long c.word.ensures.values (sym member) c.join-joined.ensures

pub returns : goal.returns
returns c = record {
  long = c.loop-i.invariant.long;
  values = joined_in_end c.args.s.now c.args.p.0 c.args.members.now (c.loop-i.i + 1) c.loop-i.joined c.loop-i.invariant
      (omega (arith, ap length c.others-others.ensures));
}
