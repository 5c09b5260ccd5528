-- Words that are made one value after the other.
use Rattle.std.proofs.Common.{ℕ, ◌≡◌, ◌<◌, ◌≤◌, ◌+◌, ◌-◌, ◌*◌, ⊎_elim, List, length, get_or, set, replicate}
use Rattle.std.proofs.Common.{min, sym, ap}
use Rattle.std.proofs.Common.{◌∙◌, arith}
use Rattle.std.proofs.lemmas.Bool.{cases_eq}
use Rattle.std.proofs.lemmas.List.{length-replicate, length-set, get_or-set_same, get_or-set_other}
use Rattle.tv_kleene.specs.declared.K3.{K3}
use Rattle.tv_kleene.specs.declared.K3.TheVariants.{No}
use Rattle.tv_row.specs.Bits.{padded}
use Rattle.tv_row.proofs.WordOps.{length-padded}
use Rattle.tv_quantifiers.specs.Words.{IsWordOf}

-- the first i values are there
pub record FilledTo (chunk i : ℕ) (g : ℕ → K3) (word : List K3) : Type 0 where
  pub long : length word ≡ 64
  pub done : (j : ℕ) → j < i → get_or word j No ≡ g (64 * chunk + j)

pub filled-none : (chunk : ℕ) (g : ℕ → K3) (word : List K3) → word ≡ padded 64 (replicate 64 No)
    → FilledTo chunk 0 g word
filled-none chunk g word is = record {
  long = ap length is ∙ length-padded 64 (replicate 64 No) (omega arith) (length-replicate 64 No);
  done = λ j lt. absurd (omega arith);
}

pub filled-next : (chunk i : ℕ) (g : ℕ → K3) (word new : List K3) (k : K3) → FilledTo chunk i g word → i < 64
    → new ≡ set word i k → k ≡ g (64 * chunk + i) → FilledTo chunk (i + 1) g new
filled-next chunk i g word new k before low is e = record {
  long = ap length is ∙ length-set word i k ∙ before.long;
  done = λ j lt. ap (λ ks. get_or ks j No) is
      ∙ ⊎_elim
      (λ at. ap (λ p. get_or (set word i k) p No) at ∙ get_or-set_same word i k No (omega (arith, before.long)) ∙ e
      ∙ ap (λ p. g (64 * chunk + p)) (sym at))
      (λ ne. get_or-set_other word i j k No ne ∙ before.done j (omega arith))
      (cases_eq j i);
}

pub filled-all : (n chunk i count : ℕ) (g : ℕ → K3) (word : List K3) → FilledTo chunk i g word
    → count ≡ min 64 (n - 64 * chunk) → count ≤ i → IsWordOf n chunk g word
filled-all n chunk i count g word filled e le = record {
  long = filled.long;
  each = λ j low within. filled.done j (omega arith);
}
