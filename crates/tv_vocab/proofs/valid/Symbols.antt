-- The predicates that are declared: their names, arities and properties.
use Rattle.std.proofs.Common.{◌≡◌, ◌≢◌, ℕ, zero, suc, ◌+◌, ◌<◌, ◌≤◌, Bool, true, false, not, get_or, List, []}
use Rattle.std.proofs.Common.{◌∷◌, ◌++◌, length, map, fold, refl, ap, sym, subst, ◌∙◌, arith, append_assoc}
use Rattle.std.proofs.Common.{length-append, inl, inr, Ok, Option, Some, None, cond}
use Rattle.std.specs.Prelude.{All, AllPairs, codes, nat_lt, nat_le, is_some, slice_get}
use Rattle.std.specs.Option.{option_map}
use Rattle.std.specs.List.{list_all, join_with_byte, AllZip}
use Rattle.std.specs.Str.{bytes_eq}
use Rattle.std.proofs.lemmas.Bool.{and_parts, or_parts, not-false, ltb-false, leb-false, eqb-true, true≢false}
use Rattle.std.proofs.lemmas.Bool.{false≢true}
use Rattle.std.proofs.lemmas.List.{append-nil, map_push}
use Rattle.std.proofs.lemmas.List.Elements.{All-nil, All-cons}
use Rattle.std.proofs.lemmas.List.Quantifiers.{all_pairs_push}
use Rattle.std.proofs.lemmas.Slice.Eq.{bytes_eq-Decides}
use Rattle.tv_tree.specs.Forms as tree
use Rattle.tv_tree.specs.Forms.{NameForm}
use Rattle.tv_tree.specs.declared.trees.PropWord.{PropWord}
use Rattle.tv_tree.specs.declared.trees.PropWord.TheVariants.{Unique, Function, Invfunction, Abs, Nonabs}
use Rattle.tv_tree.specs.declared.trees.PropWord.TheVariants.{Transitive, Reflexive, Symmetric, Boxed}
use Rattle.tv_tree.specs.declared.trees.PropWord.TheVariants.{Pointer}
use Rattle.tv_model.specs.declared.program.Props.{Props}
use Rattle.tv_model.specs.Spelling.{IsIdentifier, IsName}
use Rattle.tv_model.specs.Program.{PredForm, no_props}
use Rattle.tv_model.specs.Valid.{AreProperties}
use Rattle.tv_tree.specs.Spelled.{IsSpelledName}
use Rattle.tv_names.specs.declared.refusal.ResolveError.TheVariants.{NameTwice, ArityWrong, ArityTooLarge}
use Rattle.tv_names.specs.declared.refusal.ResolveError.TheVariants.{Reserved, TooMany}
use Rattle.tv_names.specs.Refusal.{◌>>=◌, OrRefused, refused_if, one_by_one}
use Rattle.tv_tree.specs.Names.{name_text, brackets_text}
use Rattle.tv_names.specs.Symbols.{SymbolForm, KnownForm, is_sm, is_new_word, is_reserved, symbol_of}
use Rattle.tv_names.specs.Symbols.{behind_one}
use Rattle.tv_vocab.specs.Vocabulary.{twice, fits, with_prop, props_of, symbol_checked, with_symbol}
use Rattle.tv_vocab.specs.Vocabulary.{symbols}
use Rattle.tv_vocab.proofs.valid.Refusals.{ok_is, some_is, not_none, went, not_refused}

-- ---- names

name_by : (first : List ℕ) (brackets : List (List ℕ)) → IsIdentifier first → All IsIdentifier brackets → IsName (first ++ brackets_text brackets)
name_by first [] one more = inl (subst IsIdentifier (sym (append-nil first)) one)
name_by first (x ∷ xs) one more =
    let inner = join_with_byte 44 (x ∷ xs) in
    let parts = append_assoc (first ++ 91 ∷ []) inner (93 ∷ []) ∙ append_assoc first (91 ∷ []) (inner ++ 93 ∷ []) in
    inr (first, x ∷ xs, one, omega arith, more, sym parts)

pub name_given : (n : NameForm) → IsSpelledName n → IsName (name_text n)
name_given n h = name_by n.first n.brackets h.first h.brackets

other_word : (name word : List ℕ) → bytes_eq name word ≡ false → name ≢ word
other_word name word h same = true≢false (sym ((bytes_eq-Decides name word).1 same) ∙ h)

pub not_reserved : (name : List ℕ) → is_reserved name ≡ false → (name ≢ codes "sm") × (name ≢ codes "isNew")
not_reserved name h =
    let both = or_parts (is_sm name) (is_new_word name) h in
    (other_word name (codes "sm") both.0, other_word name (codes "isNew") both.1)

-- ---- properties

no_props_fit : (arity : ℕ) → AreProperties arity no_props
no_props_fit arity = record {
  unique = λ k. absurd (false≢true k);
  function = λ k. absurd (false≢true k);
  invfunction = λ k. absurd (false≢true k);
  transitive = λ k. absurd (false≢true k);
  reflexive = λ k. absurd (false≢true k);
  symmetric = λ k. absurd (false≢true k);
}

prop_fits : (arity : ℕ) (word : PropWord) (props : Props) → fits arity word ≡ true → AreProperties arity props → AreProperties arity (with_prop props word)
prop_fits arity Unique props h old = record { unique = λ k. eqb-true arity 1 h; function = old.function; invfunction = old.invfunction; transitive = old.transitive; reflexive = old.reflexive; symmetric = old.symmetric }
prop_fits arity Function props h old = record { unique = old.unique; function = λ k. eqb-true arity 2 h; invfunction = old.invfunction; transitive = old.transitive; reflexive = old.reflexive; symmetric = old.symmetric }
prop_fits arity Invfunction props h old = record { unique = old.unique; function = old.function; invfunction = λ k. eqb-true arity 2 h; transitive = old.transitive; reflexive = old.reflexive; symmetric = old.symmetric }
prop_fits arity Abs props h old = old
prop_fits arity Nonabs props h old = old
prop_fits arity Transitive props h old = record { unique = old.unique; function = old.function; invfunction = old.invfunction; transitive = λ k. eqb-true arity 2 h; reflexive = old.reflexive; symmetric = old.symmetric }
prop_fits arity Reflexive props h old = record { unique = old.unique; function = old.function; invfunction = old.invfunction; transitive = old.transitive; reflexive = λ k. eqb-true arity 2 h; symmetric = old.symmetric }
prop_fits arity Symmetric props h old = record { unique = old.unique; function = old.function; invfunction = old.invfunction; transitive = old.transitive; reflexive = old.reflexive; symmetric = λ k. eqb-true arity 2 h }
prop_fits arity Boxed props h old = old
prop_fits arity Pointer props h old = old

props_fit : (arity : ℕ) (words : List PropWord) (props : Props) → list_all (fits arity) words ≡ true → AreProperties arity props → AreProperties arity (fold with_prop props words)
props_fit arity [] props h old = old
props_fit arity (word ∷ words) props h old =
    let parts = and_parts (fits arity word) (list_all (fits arity) words) h in
    props_fit arity words (with_prop props word) parts.1 (prop_fits arity word props parts.0 old)

pub properties_given : (arity : ℕ) (words : List PropWord) → list_all (fits arity) words ≡ true → AreProperties arity (props_of words)
properties_given arity words h = props_fit arity words no_props h (no_props_fit arity)

-- ---- declarations

-- the declaration of a predicate that wasn't refused
pub record IsDeclared (d : tree.PredForm) : Type 0 where
  pub free_name : is_reserved (name_text d.name) ≡ false
  pub arity : length d.params ≤ 2
  pub fit : list_all (fits (length d.params)) d.props ≡ true

abbrev pub symbol_for : tree.PredForm → SymbolForm
symbol_for d = record { name = name_text d.name; arity = length d.params }

record IsChecked (seen : List SymbolForm) (d : tree.PredForm) (n : ℕ) : Type 0 where
  declared : IsDeclared d
  new : is_some (symbol_of (name_text d.name) seen) ≡ false
  room : length seen < 512
  is : length d.params ≡ n

abbrev rest_room : List SymbolForm → tree.PredForm → OrRefused ℕ
rest_room seen d = refused_if (nat_le 512 (length seen)) TooMany >>= λ g. Ok (length d.params)

abbrev rest_props : List SymbolForm → tree.PredForm → OrRefused ℕ
rest_props seen d = refused_if (not (list_all (fits (length d.params)) d.props)) ArityWrong >>= λ f. rest_room seen d

abbrev rest_twice : List SymbolForm → tree.PredForm → OrRefused ℕ
rest_twice seen d = refused_if (twice d.params) NameTwice >>= λ e. rest_props seen d

abbrev rest_arity : List SymbolForm → tree.PredForm → OrRefused ℕ
rest_arity seen d = refused_if (nat_lt 2 (length d.params)) ArityTooLarge >>= λ c. rest_twice seen d

abbrev rest_new : List SymbolForm → (name : List ℕ) → tree.PredForm → OrRefused ℕ
rest_new seen name d = refused_if (is_some (symbol_of name seen)) NameTwice >>= λ b. rest_arity seen d

checked : (seen : List SymbolForm) (d : tree.PredForm) (n : ℕ) → symbol_checked seen (name_text d.name) d ≡ Ok n → IsChecked seen d n
unfolding symbol_checked
checked seen d n h =
    let name = name_text d.name in
    let a = went (refused_if (is_reserved name) Reserved) (λ a. rest_new seen name d) n h in
    let b = went (refused_if (is_some (symbol_of name seen)) NameTwice) (λ b. rest_arity seen d) n a.rest in
    let c = went (refused_if (nat_lt 2 (length d.params)) ArityTooLarge) (λ c. rest_twice seen d) n b.rest in
    let e = went (refused_if (twice d.params) NameTwice) (λ e. rest_props seen d) n c.rest in
    let f = went (refused_if (not (list_all (fits (length d.params)) d.props)) ArityWrong) (λ f. rest_room seen d) n e.rest in
    let g = went (refused_if (nat_le 512 (length seen)) TooMany) (λ g. Ok (length d.params)) n f.rest in
    record {
      declared = record {
        free_name = not_refused (is_reserved name) Reserved a.x a.gave;
        arity = ltb-false 2 (length d.params) (not_refused (nat_lt 2 (length d.params)) ArityTooLarge c.x c.gave);
        fit = not-false (list_all (fits (length d.params)) d.props) (not_refused (not (list_all (fits (length d.params)) d.props)) ArityWrong f.x f.gave);
      };
      new = not_refused (is_some (symbol_of name seen)) NameTwice b.x b.gave;
      room = leb-false 512 (length seen) (not_refused (nat_le 512 (length seen)) TooMany g.x g.gave);
      is = ok_is (length d.params) n g.rest;
    }

abbrev pub name_of : SymbolForm → List ℕ
name_of s = s.name

still_none : (o : Option KnownForm) → is_some (option_map behind_one o) ≡ false → is_some o ≡ false
still_none None h = refl
still_none (Some k) h = absurd (true≢false h)

not_among_by : (name : List ℕ) (s : SymbolForm) (o : Option KnownForm) (b : Bool) → bytes_eq name s.name ≡ b → is_some (cond b (Some (record { pred = 0; arity = s.arity })) (option_map behind_one o)) ≡ false → (s.name ≢ name) × (is_some o ≡ false)
not_among_by name s o true e h = absurd (true≢false h)
not_among_by name s o false e h = (λ same. other_word name s.name e (sym same), still_none o h)

not_among : (name : List ℕ) (seen : List SymbolForm) → is_some (symbol_of name seen) ≡ false → (k : ℕ) (d : List ℕ) → k < length (map name_of seen) → get_or (map name_of seen) k d ≢ name
not_among name [] h k d lt = absurd (omega arith)
not_among name (s ∷ seen) h zero d lt = (not_among_by name s (symbol_of name seen) (bytes_eq name s.name) refl h).0
not_among name (s ∷ seen) h (suc k) d lt = not_among name seen (not_among_by name s (symbol_of name seen) (bytes_eq name s.name) refl h).1 k d (omega arith)

pub record AreGathered (seen : List SymbolForm) (ds : List tree.PredForm) (known : List SymbolForm) : Type 0 where
  pub is : known ≡ seen ++ map symbol_for ds
  pub declared : All IsDeclared ds
  pub differ : AllPairs ◌≢◌ (map name_of known)
  pub count : length known ≤ 512

gathered : (ds : List tree.PredForm) (seen known : List SymbolForm) → AllPairs ◌≢◌ (map name_of seen) → length seen ≤ 512 → one_by_one with_symbol seen ds ≡ Ok known → AreGathered seen ds known
unfolding with_symbol
gathered [] seen known differ few h =
    subst (AreGathered seen []) (ok_is seen known h)
    (record { is = sym (append-nil seen); declared = All-nil IsDeclared; differ = differ; count = few })
gathered (d ∷ ds) seen known differ few h =
    let name = name_text d.name in
    let a = went (with_symbol seen d) (λ t. one_by_one with_symbol t ds) known h in
    let b = went (symbol_checked seen name d) (λ arity. Ok (seen ++ record { name = name; arity = arity } ∷ [])) a.x a.gave in
    let fine = checked seen d b.x b.gave in
    let next : seen ++ symbol_for d ∷ [] ≡ a.x = ap (λ (n : ℕ). seen ++ record { name = name; arity = n } ∷ []) fine.is ∙ ok_is (seen ++ record { name = name; arity = b.x } ∷ []) a.x b.rest in
    let differ_more : AllPairs ◌≢◌ (map name_of (seen ++ symbol_for d ∷ [])) =
    subst (AllPairs ◌≢◌) (sym (map_push name_of seen (symbol_for d))) (all_pairs_push ◌≢◌ (map name_of seen) name differ (not_among name seen fine.new)) in
    let room = fine.room in
    let few_more : length (seen ++ symbol_for d ∷ []) ≤ 512 = omega (arith, length-append seen (symbol_for d ∷ [])) in
    let more = gathered ds a.x known (subst (λ (t : List SymbolForm). AllPairs ◌≢◌ (map name_of t)) next differ_more) (subst (λ (t : List SymbolForm). length t ≤ 512) next few_more) a.rest in
    record {
      is = more.is ∙ ap (λ (t : List SymbolForm). t ++ map symbol_for ds) (sym next) ∙ append_assoc seen (symbol_for d ∷ []) (map symbol_for ds);
      declared = All-cons IsDeclared d ds fine.declared more.declared;
      differ = more.differ;
      count = more.count;
    }

pub symbols_given : (ds : List tree.PredForm) (known : List SymbolForm) → symbols ds ≡ Ok known → AreGathered [] ds known
symbols_given ds known h = gathered ds [] known (λ i j d less lt. absurd (omega arith)) (omega arith) h

-- ---- arities

arity_by : (name : List ℕ) (s : SymbolForm) (y : PredForm) (ys : List PredForm) (k : KnownForm) (b : Bool) (o : Option KnownForm) → y.arity ≡ s.arity → ((j : KnownForm) → o ≡ Some j → slice_get (map (λ d. d.arity) ys) j.pred ≡ Some j.arity) → cond b (Some (record { pred = 0; arity = s.arity })) (option_map behind_one o) ≡ Some k → slice_get (map (λ d. d.arity) (y ∷ ys)) k.pred ≡ Some k.arity
arity_by name s y ys k true o same rest h =
    subst (λ (j : KnownForm). slice_get (map (λ (d : PredForm). d.arity) (y ∷ ys)) j.pred ≡ Some j.arity) (some_is (record { pred = 0; arity = s.arity }) k h) (ap Some same)
arity_by name s y ys k false None same rest h = absurd (not_none k h)
arity_by name s y ys k false (Some j) same rest h =
    let g : j.pred + 1 ≡ suc j.pred = omega arith in
    subst (λ (i : KnownForm). slice_get (map (λ (d : PredForm). d.arity) (y ∷ ys)) i.pred ≡ Some i.arity) (some_is (behind_one j) k h)
    (ap (λ (n : ℕ). slice_get (map (λ (d : PredForm). d.arity) (y ∷ ys)) n) g ∙ rest j refl)

pub arities_given : (ds : List tree.PredForm) (preds : List PredForm) → AllZip (λ d y. y.arity ≡ length d.params) ds preds → (name : List ℕ) (k : KnownForm) → symbol_of name (map symbol_for ds) ≡ Some k → slice_get (map (λ d. d.arity) preds) k.pred ≡ Some k.arity
arities_given [] [] z name k h = absurd (not_none k h)
arities_given [] (y ∷ ys) z name k h = absurd z
arities_given (d ∷ ds) [] z name k h = absurd z
arities_given (d ∷ ds) (y ∷ ys) z name k h =
    arity_by name (symbol_for d) y ys k (bytes_eq name (name_text d.name)) (symbol_of name (map symbol_for ds)) z.0 (λ j e. arities_given ds ys z.1 name j e) h
