-- What is put in keeps names spelled, texts printable, and formulas as large as they were.
use Rattle.std.proofs.Common.{◌≡◌, ◌≢◌, ℕ, ◌+◌, ◌≤◌, Bool, true, false, cond, List, [], ◌∷◌, map, refl, ap}
use Rattle.std.proofs.Common.{Option, Some, None, arith}
use Rattle.std.specs.Prelude.{All, ◌⊎◌, sum_by}
use Rattle.std.specs.Map.{lookup}
use Rattle.std.specs.Option.{unwrap_or}
use Rattle.std.specs.Str.{bytes_eq}
use Rattle.std.proofs.lemmas.List.Elements.{All-nil, All-cons, All-head, All-tail, All-append, All-map}
use Rattle.std.proofs.lemmas.List.Elements.{All-weaker}
use Rattle.std.proofs.lemmas.List.Sums.{sum_by-cons}
use Rattle.tv_model.specs.Spelling.{IsDigit, IsLetter, IsIdentifier, IsText}
use Rattle.tv_tree.specs.Forms.{NameForm, Form, FZero, FOne, FHalf, FSame, FDiffer, FAtom, FStar, FPlus}
use Rattle.tv_tree.specs.Forms.{FParen, FNot, FAnd, FOr, FImp, FIff, FCond, FExists, FForall, FTc, PredForm}
use Rattle.tv_tree.specs.Forms.{UpdateForm, PieceForm, Quoted, Spelled}
use Rattle.tv_tree.specs.Spelled.{AreIdentifiers, IsSpelledName, IsSpelledForm, IsSpelledBody, IsSpelledPred}
use Rattle.tv_tree.specs.Spelled.{IsSpelledPiece, IsSpelledUpdate}
use Rattle.tv_flat.specs.FlatForm.{nodes, body_nodes}
use Rattle.tv_flat.specs.Replaced.{Binding, bound, all_bound, replaced, flat_name, flat_form, flat_body}
use Rattle.tv_flat.specs.Replaced.{flat_pred, flat_update, piece_text, joined_text}

pub case_of : {A : Type 0} (P : A → Type 0) (t : Bool) (x y : A) → P x → P y → P (cond t x y)
case_of P true x y p q = p
case_of P false x y p q = q

-- what stands for words is an identifier
abbrev pub IsGoodBinding : Binding → Type 0
IsGoodBinding b = All (λ (p : List ℕ × List ℕ). IsIdentifier p.1) b

found_good : (b : Binding) (word other : List ℕ) → IsGoodBinding b → IsIdentifier other → IsIdentifier (unwrap_or (lookup (bytes_eq word) b) other)
found_good [] word other good ok = ok
found_good (p ∷ b) word other good ok =
    by (bytes_eq word p.0) (All-head (λ (q : List ℕ × List ℕ). IsIdentifier q.1) p b good) (found_good b word other (All-tail (λ (q : List ℕ × List ℕ). IsIdentifier q.1) p b good) ok)
  where
    by : (t : Bool) → IsIdentifier p.1 → IsIdentifier (unwrap_or (lookup (bytes_eq word) b) other) → IsIdentifier (unwrap_or (cond t (Some p.1) (lookup (bytes_eq word) b)) other)
    by true first rest = first
    by false first rest = rest

pub replaced_good : (b : Binding) (word : List ℕ) → IsGoodBinding b → IsIdentifier word → IsIdentifier (replaced b word)
replaced_good b word good ok = found_good b word word good ok

pub bound_good : (b : Binding) (word by : List ℕ) → IsGoodBinding b → IsIdentifier by → IsGoodBinding (bound b word by)
bound_good [] word by good ok = All-cons (λ (q : List ℕ × List ℕ). IsIdentifier q.1) (word, by) [] ok good
bound_good (p ∷ b) word by good ok =
    case_of IsGoodBinding (bytes_eq word p.0) ((p.0, by) ∷ b) (p ∷ bound b word by)
    (All-cons (λ (q : List ℕ × List ℕ). IsIdentifier q.1) (p.0, by) b ok (All-tail (λ (q : List ℕ × List ℕ). IsIdentifier q.1) p b good))
    (All-cons (λ (q : List ℕ × List ℕ). IsIdentifier q.1) p (bound b word by) (All-head (λ (q : List ℕ × List ℕ). IsIdentifier q.1) p b good) (bound_good b word by (All-tail (λ (q : List ℕ × List ℕ). IsIdentifier q.1) p b good) ok))

pub all_bound_good : (b : Binding) (ps : List (List ℕ × List ℕ)) → IsGoodBinding b → All (λ (q : List ℕ × List ℕ). IsIdentifier q.1) ps → IsGoodBinding (all_bound b ps)
all_bound_good b [] good ok = good
all_bound_good b (p ∷ ps) good ok =
    all_bound_good (bound b p.0 p.1) ps (bound_good b p.0 p.1 good (All-head (λ (q : List ℕ × List ℕ). IsIdentifier q.1) p ps ok)) (All-tail (λ (q : List ℕ × List ℕ). IsIdentifier q.1) p ps ok)

pub replaced_all : (b : Binding) (words : List (List ℕ)) → IsGoodBinding b → AreIdentifiers words → AreIdentifiers (map (replaced b) words)
replaced_all b words good ok = All-map IsIdentifier (replaced b) words (All-weaker IsIdentifier (λ w. IsIdentifier (replaced b w)) (λ w h. replaced_good b w good h) words ok)

name_good : (b : Binding) (n : NameForm) → IsGoodBinding b → IsSpelledName n → IsSpelledName (flat_name b n)
name_good b n good ok = record { first = replaced_good b n.first good ok.first; brackets = replaced_all b n.brackets good ok.brackets }

pub form_good : (b : Binding) (f : Form) → IsGoodBinding b → IsSpelledForm f → IsSpelledForm (flat_form b f)
form_good b FZero good ok = tt
form_good b FOne good ok = tt
form_good b FHalf good ok = tt
form_good b (FSame v w) good ok = ok
form_good b (FDiffer v w) good ok = ok
form_good b (FAtom n xs) good ok = (name_good b n good ok.0, ok.1)
form_good b (FStar n v w) good ok = (name_good b n good ok.0, ok.1, ok.2)
form_good b (FPlus n v w) good ok = (name_good b n good ok.0, ok.1, ok.2)
form_good b (FParen f) good ok = form_good b f good ok
form_good b (FNot f) good ok = form_good b f good ok
form_good b (FAnd f g) good ok = (form_good b f good ok.0, form_good b g good ok.1)
form_good b (FOr f g) good ok = (form_good b f good ok.0, form_good b g good ok.1)
form_good b (FImp f g) good ok = (form_good b f good ok.0, form_good b g good ok.1)
form_good b (FIff f g) good ok = (form_good b f good ok.0, form_good b g good ok.1)
form_good b (FCond f g h) good ok = (form_good b f good ok.0, form_good b g good ok.1, form_good b h good ok.2)
form_good b (FExists xs f) good ok = (ok.0, form_good b f good ok.1)
form_good b (FForall xs f) good ok = (ok.0, form_good b f good ok.1)
form_good b (FTc from to left right f) good ok = (ok.0, ok.1, ok.2, ok.3, form_good b f good ok.4)

pub forms_good : (b : Binding) (fs : List Form) → IsGoodBinding b → All IsSpelledForm fs → All IsSpelledForm (map (flat_form b) fs)
forms_good b [] good ok = All-nil IsSpelledForm
forms_good b (f ∷ fs) good ok =
    All-cons IsSpelledForm (flat_form b f) (map (flat_form b) fs) (form_good b f good (All-head IsSpelledForm f fs ok)) (forms_good b fs good (All-tail IsSpelledForm f fs ok))

body_good : (b : Binding) (body : Option Form) → IsGoodBinding b → IsSpelledBody body → IsSpelledBody (flat_body b body)
body_good b None good ok = tt
body_good b (Some f) good ok = form_good b f good ok

pub pred_good : (b : Binding) (d : PredForm) → IsGoodBinding b → IsSpelledPred d → IsSpelledPred (flat_pred b d)
pred_good b d good ok = record { name = name_good b d.name good ok.name; params = ok.params; body = body_good b d.body good ok.body }

pub update_good : (b : Binding) (u : UpdateForm) → IsGoodBinding b → IsSpelledUpdate u → IsSpelledUpdate (flat_update b u)
update_good b u good ok = record { name = name_good b u.name good ok.name; params = ok.params; body = form_good b u.body good ok.body }

-- ---- nodes

pub nodes_same : (b : Binding) (f : Form) → nodes (flat_form b f) ≡ nodes f
nodes_same b FZero = refl
nodes_same b FOne = refl
nodes_same b FHalf = refl
nodes_same b (FSame v w) = refl
nodes_same b (FDiffer v w) = refl
nodes_same b (FAtom n xs) = refl
nodes_same b (FStar n v w) = refl
nodes_same b (FPlus n v w) = refl
nodes_same b (FParen f) = ap (λ n. 1 + n) (nodes_same b f)
nodes_same b (FNot f) = ap (λ n. 1 + n) (nodes_same b f)
nodes_same b (FAnd f g) = rw (nodes_same b f, nodes_same b g) refl
nodes_same b (FOr f g) = rw (nodes_same b f, nodes_same b g) refl
nodes_same b (FImp f g) = rw (nodes_same b f, nodes_same b g) refl
nodes_same b (FIff f g) = rw (nodes_same b f, nodes_same b g) refl
nodes_same b (FCond f g h) = rw (nodes_same b f, nodes_same b g, nodes_same b h) refl
nodes_same b (FExists xs f) = ap (λ n. 1 + n) (nodes_same b f)
nodes_same b (FForall xs f) = ap (λ n. 1 + n) (nodes_same b f)
nodes_same b (FTc from to left right f) = ap (λ n. 1 + n) (nodes_same b f)

pub sum_same : (b : Binding) (fs : List Form) → sum_by nodes (map (flat_form b) fs) ≡ sum_by nodes fs
sum_same b [] = refl
sum_same b (f ∷ fs) = rw (sum_by-cons nodes (flat_form b f) (map (flat_form b) fs), sum_by-cons nodes f fs, nodes_same b f, sum_same b fs) refl

pub body_same : (b : Binding) (body : Option Form) → body_nodes (flat_body b body) ≡ body_nodes body
body_same b None = refl
body_same b (Some f) = nodes_same b f

-- ---- texts

abbrev Prints : ℕ → Type 0
Prints c = (32 ≤ c) × (c ≤ 126) × (c ≢ 34)

letter_prints : (c : ℕ) → IsLetter c ⊎ IsDigit c ⊎ (c ≡ 95) → Prints c
letter_prints c h = (grind arith, grind arith, grind arith)

piece_good : (b : Binding) (p : PieceForm) → IsGoodBinding b → IsSpelledPiece p → IsText (piece_text b p)
piece_good b (Quoted s) good ok = ok
piece_good b (Spelled s) good ok =
    All-weaker (λ (c : ℕ). IsLetter c ⊎ IsDigit c ⊎ (c ≡ 95)) Prints letter_prints (replaced b s) ((replaced_good b s good ok).0.1)

pub joined_good : (b : Binding) (ps : List PieceForm) → IsGoodBinding b → All IsSpelledPiece ps → IsText (joined_text b ps)
joined_good b [] good ok = All-nil Prints
joined_good b (p ∷ ps) good ok =
    All-append Prints (piece_text b p) (joined_text b ps) (piece_good b p good (All-head IsSpelledPiece p ps ok)) (joined_good b ps good (All-tail IsSpelledPiece p ps ok))
