-- The vocabulary of a valid program.
use Rattle.std.proofs.Common.{◌≢◌, ℕ, ◌≤◌, ◌<◌, length, map, get_or, sym, subst}
use Rattle.std.specs.Prelude.{AllPairs}
use Rattle.std.proofs.lemmas.List.{length-map, get_or-map}
use Rattle.tv_model.specs.Program.{pred_of, program_of}
use Rattle.tv_model.specs.Valid.{IsPred}
use Rattle.tv_model.specs.declared.program.Pred.{Pred}
use Rattle.tv_model.proofs.Parts.{names-same}
use Rattle.tv_tvs.specs.Laws.{ValidProgramsFit}

pub valid_fits : ValidProgramsFit
valid_fits p valid = record {
  vocabulary = record {
    names = subst (AllPairs ◌≢◌) (names-same p.vocab.preds) valid.pred_names_differ;
    arities = λ k d lt. (at k d lt).arity;
    count = subst (λ n. n ≤ 512) (length-map p.vocab.preds pred_of) valid.pred_count;
  };
  spelled = λ k d lt. ((at k d lt).name.0, (at k d lt).name.1);
}
  where
    at : (k : ℕ) (d : Pred) → k < length p.vocab.preds → IsPred (program_of p) (pred_of (get_or p.vocab.preds k d))
    at k d lt =
        let within : k < length (map pred_of p.vocab.preds) = subst (λ n. k < n) (sym (length-map p.vocab.preds pred_of)) lt
        in subst (IsPred (program_of p)) (get_or-map pred_of p.vocab.preds k d (pred_of d) lt) (valid.preds k (pred_of d) within)
