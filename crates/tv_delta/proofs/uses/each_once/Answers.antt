use Rattle.std.proofs.Common.{ℕ, ◌≡◌, ◌∙◌, Bool, true, false, List, ap, refl, sym, eqb, Contains}
use Rattle.std.specs.List.{dedup, list_any}
use Rattle.std.proofs.lemmas.Bool.{false≢true}
use Rattle.std.proofs.lemmas.List.Filters.{dedup_is}
use Rattle.std.proofs.lemmas.List.Folds.{Any-from_list_any, list_any_at}
use Rattle.std.proofs.lemmas.List.Kept.{Contains-dedup_nat, Contains-from_dedup}
use Rattle.std.proofs.lemmas.List.Sorted.{list_any-IsPermutation}
use Rattle.tv_delta.proofs.uses.each_once.Goals as goal

any-among : (test : ℕ → Bool) (xs ys : List ℕ) → ((x : ℕ) → Contains xs x → Contains ys x) → list_any test xs ≡ true
    → list_any test ys ≡ true
any-among test xs ys among found =
    let at = Any-from_list_any test xs found
    in let its = among at.1 (at.0, at.2, at.3)
    in list_any_at test ys its.0 at.1 its.1 (ap test its.2 ∙ at.4)

same-bool : (a b : Bool) → (a ≡ true → b ≡ true) → (b ≡ true → a ≡ true) → a ≡ b
same-bool true b there back = sym (there refl)
same-bool false true there back = absurd (false≢true (back refl))
same-bool false false there back = refl

deduped : (test : ℕ → Bool) (xs : List ℕ) → list_any test (dedup eqb xs) ≡ list_any test xs
deduped test xs =
    same-bool (list_any test (dedup eqb xs)) (list_any test xs)
    (any-among test (dedup eqb xs) xs (λ x. Contains-from_dedup eqb xs x))
    (any-among test xs (dedup eqb xs) (λ x. Contains-dedup_nat xs x))

pub returns : goal.returns
returns c = λ test.
    ap (list_any test) (dedup_is eqb c.sort_unstable.new.self.items c.dedup.new.self.items c.dedup.ensures.filtered)
    ∙ deduped test c.sort_unstable.new.self.items
    ∙ sym (list_any-IsPermutation test c.args.list.items c.sort_unstable.new.self.items
    c.sort_unstable.ensures.permutation)
