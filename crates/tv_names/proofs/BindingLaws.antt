-- Names that are bound one after the other, and those of the definition, which go inwards.
use Rattle.std.proofs.Common.{◌≡◌, ℕ, List, [], ◌∷◌, ◌++◌, refl, ap, sym, ◌∙◌, Ok, Err, Bool, true, false}
use Rattle.tv_tree.specs.Names.{is_among}
use Rattle.tv_model.specs.Form.{Form}
use Rattle.tv_names.specs.Refusal.{◌>>=◌, OrRefused, refused_if, one_by_one}
use Rattle.tv_names.specs.declared.refusal.ResolveError.TheVariants.{NameTwice}
use Rattle.tv_names.specs.Naming.{NamingForm, sighted}
use Rattle.tv_names.specs.Resolving.{PlaceForm, Numbered, quantified, under}
use Rattle.tv_names.specs.Binding.{BoundForm, begun, bind, over_all, body_under, quantified_in_turn}

pub over_last : (quantifier : ℕ → Form → Form) (vars : List ℕ) (v : ℕ) (f : Form)
    → over_all quantifier (vars ++ v ∷ []) f ≡ over_all quantifier vars (quantifier v f)
over_last quantifier [] v f = refl
over_last quantifier (w ∷ vars) v f = ap (quantifier w) (over_last quantifier vars v f)

module _ (quantifier : ℕ → Form → Form) (body : PlaceForm → NamingForm → Numbered Form) where
  abbrev wrapped : List ℕ → Numbered Form → Numbered Form
  wrapped vars r = r >>= λ f. Ok (over_all quantifier vars f.0, f.1)

  one_more : (vars : List ℕ) (v : ℕ) (r : Numbered Form)
      → wrapped vars (r >>= λ f. Ok (quantifier v f.0, f.1)) ≡ wrapped (vars ++ v ∷ []) r
  one_more vars v (Err e) = refl
  one_more vars v (Ok f) = ap (λ (g : Form). Ok (g, f.1)) (sym (over_last quantifier vars v f.0))

  from_here : (at : PlaceForm) (earlier : List (List ℕ)) (vars : List ℕ) (names : List (List ℕ)) (s : NamingForm)
      → wrapped vars (quantified quantifier body at earlier names s)
      ≡ (one_by_one bind (record { place = at; earlier = earlier; vars = vars; numbers = s }) names
      >>= body_under quantifier body)
  from_here at earlier vars [] s = refl
  from_here at earlier vars (name ∷ names) s =
      step (is_among earlier name) (sighted name s) (λ v. from_here (under at v.0) (earlier ++ name ∷ []) (vars ++ v.0 ∷ []) names v.1)
    where
      step : (twice : Bool) (r : Numbered ℕ)
          → ((v : ℕ × NamingForm) → wrapped (vars ++ v.0 ∷ []) (quantified quantifier body (under at v.0) (earlier ++ name ∷ []) names v.1)
          ≡ (one_by_one bind (record { place = under at v.0; earlier = earlier ++ name ∷ []; vars = vars ++ v.0 ∷ []; numbers = v.1 }) names
          >>= body_under quantifier body))
          → wrapped vars (refused_if twice NameTwice >>= λ new. r >>= λ v. quantified quantifier body (under at v.0) (earlier ++ name ∷ []) names v.1
          >>= λ f. Ok (quantifier v.0 f.0, f.1))
          ≡ (((refused_if twice NameTwice >>= λ new. r >>= λ v. Ok (record { place = under at v.0; earlier = earlier ++ name ∷ []; vars = vars ++ v.0 ∷ []; numbers = v.1 }))
          >>= λ x. one_by_one bind x names) >>= body_under quantifier body)
      step true r further = refl
      step false (Err e) further = refl
      step false (Ok v) further =
          one_more vars v.0 (quantified quantifier body (under at v.0) (earlier ++ name ∷ []) names v.1) ∙ further v

  pub bound_in_turn : (at : PlaceForm) (names : List (List ℕ)) (s : NamingForm)
      → quantified quantifier body at [] names s ≡ quantified_in_turn quantifier body at names s
  bound_in_turn at names s = unwrapped (quantified quantifier body at [] names s) ∙ from_here at [] [] names s
    where
      unwrapped : (r : Numbered Form) → r ≡ wrapped [] r
      unwrapped (Err e) = refl
      unwrapped (Ok f) = refl
