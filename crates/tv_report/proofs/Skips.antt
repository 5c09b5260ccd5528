-- Structures that are passed over, one by one.
use Rattle.std.proofs.Common.{◌≡◌, ℕ, suc, ◌+◌, ◌-◌, ◌<◌, ◌≤◌, List, Some, None, Option, refl, ap, ◌∙◌, arith}
use Rattle.tv_lex.specs.Token.{SpecToken}
use Rattle.tv_phrases.specs.declared.error.PhraseError.{PhraseError}
use Rattle.tv_phrases.specs.declared.error.PhraseError.TheVariants.{Unexpected, Memory}
use Rattle.tv_phrases.specs.Reading.{Told}
use Rattle.tv_tvs.specs.Reading.{struct_end}
use Rattle.tv_report.specs.Reading.{structures_end}

one_step : (n : ℕ) (ts us : List SpecToken) → struct_end ts ≡ Some us → structures_end (suc n) ts ≡ structures_end n us
unfolding structures_end
one_step n ts us is = rw is refl

no_step : (n : ℕ) (ts : List SpecToken) → struct_end ts ≡ None → structures_end (suc n) ts ≡ None
unfolding structures_end
no_step n ts none = rw none refl

pub one_skipped : (count i : ℕ) (ts us : List SpecToken) (all : Option (List SpecToken)) → i < count → all ≡ structures_end (count - i) ts
    → struct_end ts ≡ Some us → all ≡ structures_end (count - (i + 1)) us
one_skipped count i ts us all lt so_far is =
    let left : count - i ≡ suc (count - (i + 1)) = omega arith
    in so_far ∙ ap (λ n. structures_end n ts) left ∙ one_step (count - (i + 1)) ts us is

pub none_skipped : (e : PhraseError) (count i : ℕ) (ts : List SpecToken) (all : Option (List SpecToken)) → i < count → all ≡ structures_end (count - i) ts
    → Told e (struct_end ts ≡ None) → Told e (all ≡ None)
none_skipped Memory count i ts all lt so_far is = tt
none_skipped (Unexpected at) count i ts all lt so_far is =
    let left : count - i ≡ suc (count - (i + 1)) = omega arith
    in so_far ∙ ap (λ n. structures_end n ts) left ∙ no_step (count - (i + 1)) ts is

pub all_skipped : (count i : ℕ) (ts : List SpecToken) (all : Option (List SpecToken)) → count ≤ i → all ≡ structures_end (count - i) ts → all ≡ Some ts
unfolding structures_end
all_skipped count i ts all le so_far =
    let left : count - i ≡ 0 = omega arith
    in so_far ∙ ap (λ n. structures_end n ts) left
