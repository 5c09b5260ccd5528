-- A text has fewer structures than bytes.
use Rattle.std.proofs.Common.{◌≡◌, ℕ, ◌<◌, ◌≤◌, ◌^◌, List, [], ◌∷◌, length, None, Result, Ok, Err, refl}
use Rattle.std.proofs.Common.{sym, ap, arith}
use Rattle.std.specs.Prelude.{All}
use Rattle.std.proofs.lemmas.List.{length-map}
use Rattle.tv_lex.specs.Pieces.{AreInOrder}
use Rattle.tv_lex.specs.Token.{SpecToken, spec_token, spec_tokens}
use Rattle.tv_lex.specs.declared.token.Token.{Token}
use Rattle.tv_model.specs.declared.program.Pred.{Pred}
use Rattle.tv_lex.proofs.PlaceLemmas.{count_in_order}
use Rattle.tv_phrases.specs.Repeated.{Repeated}
use Rattle.tv_structure_form.specs.StructureForm.{StructureForm, IsOver}
use Rattle.tv_tree.specs.Steps.{◌>>=◌}
use Rattle.tv_tvs.proofs.Complete.{struct_shorter}
use Rattle.tv_tvs.specs.Grammar.{IsStruct, begins_struct}
use Rattle.tv_tvs.specs.Meaning.{MeansStructs, struct_meant, structs_meant}
use Rattle.tv_tvs.specs.Tree.{StructTree}
use Rattle.tv_tvs.specs.declared.error.TvsError.{TvsError}
use Rattle.tv_model.specs.declared.program.Vocab.{Vocab}
use Rattle.tv_lemmas.proofs.Options.{same_Ok}

-- what two steps give, step by step
pub both_ok : {A B E : Type 0} (r : Result A E) (f : A → Result B E) (y : B) → (r >>= f) ≡ Ok y
    → (x : A) × (r ≡ Ok x) × (f x ≡ Ok y)
both_ok (Ok x) f y e = (x, refl, e)
both_ok (Err d) f y e = absurd cc

many_counts : (ts : List SpecToken) (trees : List StructTree) (rest : List SpecToken)
    → Repeated begins_struct IsStruct ts trees rest → length trees ≤ length ts
many_counts ts [] rest p = omega arith
many_counts ts (t ∷ trees) rest p =
    omega (arith, struct_shorter ts t p.0 p.2, many_counts p.0 trees rest p.3)

meant_count : (preds : List Pred) (trees : List StructTree) (ss : List StructureForm)
    → structs_meant preds trees ≡ Ok ss → length ss ≡ length trees
meant_count preds [] ss e = ap length (sym (same_Ok {X = List StructureForm} {E = TvsError} [] ss e))
meant_count preds (t ∷ ts) ss e =
    let b = both_ok (struct_meant preds t) (λ s. structs_meant preds ts >>= λ more. Ok (s ∷ more)) ss e in
    let d = both_ok (structs_meant preds ts) (λ more. Ok (b.0 ∷ more)) ss b.2 in
    let same : length (b.0 ∷ d.0) ≡ length ss = ap length (same_Ok {X = List StructureForm} {E = TvsError} (b.0 ∷ d.0) ss d.2) in
    omega (arith, same, meant_count preds ts d.0 d.1)

pub few_structures : (vocab : Vocab) (text : List ℕ) (tokens : List Token) (ss : List StructureForm)
    → AreInOrder 0 tokens (length text) → length text ≤ 4194304 → MeansStructs vocab (spec_tokens text tokens) (Ok ss)
    → length ss < 2 ^ 32
few_structures vocab text tokens ss order size means =
    omega (
      arith,
      size,
      count_in_order 0 tokens (length text) order,
      length-map tokens (spec_token text),
      many_counts (spec_tokens text tokens) means.trees [] means.are,
      meant_count vocab.preds means.trees ss means.meant,
    )

-- structures over the vocabulary without a mark are over it
pub all_over : (vocab : Vocab) (ss : List StructureForm) → All (λ s. IsOver vocab s × (s.fresh ≡ None)) ss → All (IsOver vocab) ss
all_over vocab ss all = λ k d lt. (all k d lt).0
