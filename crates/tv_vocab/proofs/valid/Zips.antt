-- What each of a list gave, place by place.
use Rattle.std.proofs.Common.{◌≡◌, List, [], ◌∷◌, ◌++◌, length, map, refl, ap, sym, subst, ◌∙◌, append_assoc}
use Rattle.std.proofs.Common.{arith, Ok}
use Rattle.std.specs.List.{All, AllZip}
use Rattle.std.proofs.lemmas.List.{append-nil}
use Rattle.std.proofs.lemmas.List.Elements.{All-nil, All-cons, All-head, All-tail}
use Rattle.tv_names.specs.Refusal.{OrRefused, one_by_one, put_behind, each}
use Rattle.tv_vocab.proofs.valid.Refusals.{ok_is, went}

-- what was there before, and behind it what each of xs gave
pub record EachOf {A B : Type 0} (step : A → OrRefused B) (xs : List A) (done ys : List B) : Type 0 where
  pub rest : List B
  pub is : ys ≡ done ++ rest
  pub zip : AllZip (λ x y. step x ≡ Ok y) xs rest

each_of : {A B : Type 0} (step : A → OrRefused B) (xs : List A) (done ys : List B) → one_by_one (put_behind step) done xs ≡ Ok ys → EachOf step xs done ys
each_of step [] done ys h = record { rest = []; is = sym (ok_is done ys h) ∙ sym (append-nil done); zip = tt }
each_of step (x ∷ xs) done ys h =
    let a = went (put_behind step done x) (λ t. one_by_one (put_behind step) t xs) ys h in
    let b = went (step x) (λ y. Ok (done ++ y ∷ [])) a.x a.gave in
    let more = each_of step xs a.x ys a.rest in
    record {
      rest = b.x ∷ more.rest;
      is = more.is ∙ ap (λ zs. zs ++ more.rest) (sym (ok_is (done ++ b.x ∷ []) a.x b.rest)) ∙ append_assoc done (b.x ∷ []) more.rest;
      zip = (b.gave, more.zip);
    }

pub each_zip : {A B : Type 0} (step : A → OrRefused B) (xs : List A) (ys : List B) → each step xs ≡ Ok ys → AllZip (λ x y. step x ≡ Ok y) xs ys
each_zip step xs ys h =
    let of = each_of step xs [] ys h in
    subst (AllZip (λ x y. step x ≡ Ok y) xs) (sym of.is) of.zip

module _ {A B : Type 0} (R : A → B → Type 0) where
  pub zip_all : (Q : A → Type 0) (P : B → Type 0) → ((x : A) (y : B) → Q x → R x y → P y) → (xs : List A) (ys : List B) → AllZip R xs ys → All Q xs → All P ys
  zip_all Q P f [] [] z q = All-nil P
  zip_all Q P f [] (y ∷ ys) z q = absurd z
  zip_all Q P f (x ∷ xs) [] z q = absurd z
  zip_all Q P f (x ∷ xs) (y ∷ ys) z q = All-cons P y ys (f x y (All-head Q x xs q) z.0) (zip_all Q P f xs ys z.1 (All-tail Q x xs q))

  pub zip_map : {C : Type 0} (f : A → C) (g : B → C) → ((x : A) (y : B) → R x y → f x ≡ g y) → (xs : List A) (ys : List B) → AllZip R xs ys → map f xs ≡ map g ys
  zip_map f g same [] [] z = refl
  zip_map f g same [] (y ∷ ys) z = absurd z
  zip_map f g same (x ∷ xs) [] z = absurd z
  zip_map f g same (x ∷ xs) (y ∷ ys) z = let rest = zip_map f g same xs ys z.1 in let here = same x y z.0 in cc

  pub zip_also : (Q : A → Type 0) (S : A → B → Type 0) → ((x : A) (y : B) → Q x → R x y → S x y) → (xs : List A) (ys : List B) → AllZip R xs ys → All Q xs → AllZip S xs ys
  zip_also Q S f [] [] z q = tt
  zip_also Q S f [] (y ∷ ys) z q = absurd z
  zip_also Q S f (x ∷ xs) [] z q = absurd z
  zip_also Q S f (x ∷ xs) (y ∷ ys) z q = (f x y (All-head Q x xs q) z.0, zip_also Q S f xs ys z.1 (All-tail Q x xs q))

  pub zip_length : (xs : List A) (ys : List B) → AllZip R xs ys → length xs ≡ length ys
  zip_length [] [] z = refl
  zip_length [] (y ∷ ys) z = absurd z
  zip_length (x ∷ xs) [] z = absurd z
  zip_length (x ∷ xs) (y ∷ ys) z = let rest = zip_length xs ys z.1 in omega (arith, rest)
