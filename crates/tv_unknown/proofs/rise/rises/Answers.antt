use Rattle.std.proofs.Common.{ℕ, List, ◌∙◌, ◌-◌, ◌++◌, [], ◌∷◌, arith, ap, sym}
use Rattle.std.specs.List.{flat_map, range_with_len}
use Rattle.std.proofs.lemmas.List.{append-nil}
use Rattle.std.proofs.lemmas.List.Concat.{flat_map-append}
use Rattle.tv_lemmas.proofs.Lists.{range_more}
use Rattle.tv_unknown.specs.Unknown.{rise_by, unknown_count}
use Rattle.tv_unknown.specs.declared.rise.Rise.{Rise}
use Rattle.tv_unknown.proofs.rise.rises.Goals as goal

pub loop-pred-preserved : goal.loop-pred-preserved
loop-pred-preserved c =
    let each : ℕ → List Rise
    = λ q. rise_by q (unknown_count c.args.after.now q - unknown_count c.args.before.now q)
    in let n = c.loop-pred.pred
    in c.in_ok-push_rise.ensures
    ∙ ap (λ l. l ++ each n) c.loop-pred.invariant
    ∙ sym (ap (flat_map each) (range_more 0 n ∙ ap (λ k. range_with_len 0 n ++ k ∷ []) (omega arith))
    ∙ flat_map-append each (range_with_len 0 n) (n ∷ [])
    ∙ ap (λ xs. flat_map each (range_with_len 0 n) ++ xs) (append-nil (each n)))
