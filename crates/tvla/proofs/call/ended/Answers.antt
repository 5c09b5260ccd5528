use Rattle.std.proofs.Common.{◌≡◌, ◌∙◌, ap, drop, inl, subst, sym}
use Rattle.tv_real.proofs.OneList.{one_arguments}
use Rattle.tv_words.specs.Words.{SpellsNothing, words_of}
use Rattle.tvla.proofs.call.ended.Goals as goal

pub returns-in-Ok-clause-ended : goal.returns-in-Ok-clause-ended
returns-in-Ok-clause-ended g c =
    let behind : c.behind_the_name.result.now ≡ drop 1 c.in-Ok.all.items
    = c.behind_the_name.ensures ∙ ap (drop 1) c.deref.ensures.value in
    inl (
      c.in-Ok.all.items,
      c.in-Ok.ensures,
      rw (← behind) (record {
        cause = c.tvla.ensures.cause;
        out = c.tvla.ensures.out;
        err = c.tvla.ensures.err;
        exact = c.tvla.ensures.exact;
        complete = c.tvla.ensures.complete;
        begins = c.tvla.ensures.begins;
        most = c.tvla.ensures.most;
      }),
    )

pub returns-in-Ok-clause-unread : goal.returns-in-Ok-clause-unread
returns-in-Ok-clause-unread g c h =
    let behind : c.behind_the_name.result.now ≡ drop 1 c.in-Ok.all.items
    = c.behind_the_name.ensures ∙ ap (drop 1) c.deref.ensures.value in
    let one : h.0 ≡ c.in-Ok.all.items = one_arguments c.args.args h.0 c.in-Ok.all.items h.1 c.in-Ok.ensures in
    c.tvla.ensures.unread (subst (λ words. SpellsNothing (words_of words)) (ap (drop 1) one ∙ sym behind) h.2)
