use Rattle.std.proofs.Common.{◌≡◌, ◌∙◌, ap, drop, inl, subst, sym}
use Rattle.tv_explain_words.specs.Words.{SpellsNothing}
use Rattle.tv_real.proofs.OneList.{one_arguments}
use Rattle.tv_words.specs.Words.{words_of}
use Rattle.tvla_explain.proofs.call.ended.Goals as goal

pub returns-in-Ok-clause-ended : goal.returns-in-Ok-clause-ended
returns-in-Ok-clause-ended g c =
    let behind : c.behind_the_name.result.now ≡ drop 1 c.in-Ok.all.items
    = c.behind_the_name.ensures ∙ ap (drop 1) c.deref.ensures.value in
    inl (
      c.in-Ok.all.items,
      c.in-Ok.ensures,
      rw (← behind) (record {
        done = c.explain.ensures.done;
        exact = c.explain.ensures.exact;
        complete = c.explain.ensures.complete;
        begins = c.explain.ensures.begins;
        most = c.explain.ensures.most;
      }),
    )

pub returns-in-Ok-clause-unread : goal.returns-in-Ok-clause-unread
returns-in-Ok-clause-unread g c h =
    let behind : c.behind_the_name.result.now ≡ drop 1 c.in-Ok.all.items
    = c.behind_the_name.ensures ∙ ap (drop 1) c.deref.ensures.value in
    let one : h.0 ≡ c.in-Ok.all.items = one_arguments c.args.args h.0 c.in-Ok.all.items h.1 c.in-Ok.ensures in
    c.explain.ensures.unread (subst (λ words. SpellsNothing (words_of words)) (ap (drop 1) one ∙ sym behind) h.2)
