-- Each item has room for 32 variables.
use Rattle.std.proofs.Common.{◌≡◌, ℕ, ◌+◌, ◌<◌, Bool, true, false, not, cond, ◌||◌, ◌&&◌, ◌==◌, List, [], ◌∷◌}
use Rattle.std.proofs.Common.{◌++◌, length, refl, ap, sym, subst, ◌∙◌, arith, append_assoc, Ok, Err, Option}
use Rattle.std.proofs.Common.{Some, None}
use Rattle.std.specs.Prelude.{is_some, slice_get}
use Rattle.std.specs.List.{flat_map, list_any, list_all}
use Rattle.std.specs.Str.{bytes_eq}
use Rattle.std.proofs.lemmas.Bool.{false≢true}
use Rattle.std.proofs.lemmas.List.{append-nil}
use Rattle.std.proofs.lemmas.List.Folds.{list_any-append}
use Rattle.tv_tree.specs.Forms as tree
use Rattle.tv_tree.specs.Forms.{PieceForm}
use Rattle.tv_tree.specs.Names.{is_among}
use Rattle.tv_model.specs.Form.{Form, FZero, FAtom, FSame, FNot}
use Rattle.tv_model.specs.Program.{PredForm, KindForm, KDefined, RuleForm, HeadForm, ChangeForm, CFree, CTo}
use Rattle.tv_model.specs.Program.{RetainForm, MessageForm, is_core_pred}
use Rattle.tv_model.specs.Program as model
use Rattle.tv_names.specs.declared.refusal.ResolveError.{ResolveError}
use Rattle.tv_names.specs.declared.refusal.ResolveError.TheVariants.{TooManyVariables, ArityTooLarge}
use Rattle.tv_names.specs.declared.refusal.ResolveError.TheVariants.{ArityWrong, NameTwice, UpdateTwice}
use Rattle.tv_names.specs.declared.refusal.ResolveError.TheVariants.{HeadForm as BadHead}
use Rattle.tv_names.specs.Refusal.{◌>>=◌, OrRefused, refused_if, one_by_one}
use Rattle.tv_names.specs.Symbols.{SymbolForm, KnownForm}
use Rattle.tv_names.specs.Naming.{SlotForm, Vacant, Nameless, Named, NamingForm, is_named, hidden, filled}
use Rattle.tv_names.specs.Naming.{declared, two_declared, declared_all, no_names}
use Rattle.tv_names.specs.Numbers.{Sight, OfName, OfPair, sights, is_numbered, variables_of, new_variables}
use Rattle.tv_names.specs.Numbers.{vacant_count, filled_with}
use Rattle.tv_names.specs.Resolving.{PlaceForm, Numbered, resolved}
use Rattle.tv_names.proofs.SlotFills.{fill_count, filled_name}
use Rattle.tv_names.proofs.Sightings.{Follows, Sees, Fills, fills, first_alike, left_over, sees_then}
use Rattle.tv_names.proofs.Sightings.{sees_map, sees_none}
use Rattle.tv_names.proofs.SightLaws.{resolved_sees}
use Rattle.tv_vocab.specs.Vocabulary.{twice, over, anywhere, definition, negated_head, head_of, rule}
use Rattle.tv_vocab.specs.Actions.{with_formula, resolved_all, focused, PickingForm, picking, precondition}
use Rattle.tv_vocab.specs.Actions.{piece_text, message, further_number, retaining, retain, updating, is_half}
use Rattle.tv_vocab.specs.Actions.{is_updated, change, update_of_pred}
use Rattle.tv_vocab.specs.Variables.{free_names, picked_names, is_known, further_variables, variable_count}
use Rattle.tv_vocab.specs.Variables.{one_more, HasRoom, ItemsHave32Variables}
use Rattle.std.proofs.lemmas.Slice.Eq.{bytes_eq-Decides}
use Rattle.tv_vocab.proofs.items.Frees.{has_other}
use Rattle.tv_vocab.proofs.items.Resolved.{formula_free}
use Rattle.tv_vocab.proofs.items.Kept.{Begins, nothing_begins, IsBegun, precondition_begun}

-- ---- steps that have room

abbrev Never : {A : Type 0} → OrRefused A → Type 0
Never r = r ≡ Err TooManyVariables → ⊥

room_map : {A B : Type 0} (n : ℕ) (r : OrRefused A) (g : A → B) → HasRoom n r
    → HasRoom n (r >>= λ x. Ok (g x))
room_map n (Ok x) g h = h
room_map n (Err e) g h = h

-- a further step that is no matter of numbers
room_then : {A B : Type 0} (n : ℕ) (r : OrRefused A) (next : A → OrRefused B) → HasRoom n r
    → ((x : A) → Never (next x)) → HasRoom n (r >>= next)
room_then {A} {B} n (Ok x) next h never = by (next x) (never x)
  where
    by : (out : OrRefused B) → Never out → HasRoom n out
    by (Ok y) k = h
    by (Err e) k = λ is. absurd (k (ap Err is))
room_then n (Err e) next h never = h

-- a test before that is none
room_behind : {A B : Type 0} (n : ℕ) (g : OrRefused A) (f : A → OrRefused B) → Never g
    → ((x : A) → HasRoom n (f x)) → HasRoom n (g >>= f)
room_behind n (Ok x) f never h = h x
room_behind n (Err e) f never h = λ is. absurd (never (ap Err is))

never_if : (wrong : Bool) (e : ResolveError) → (e ≡ TooManyVariables → ⊥) → Never (refused_if wrong e)
never_if true e apart h = apart (same e TooManyVariables h)
  where
    same : (d c : ResolveError) → ◌≡◌ {A = OrRefused (Unit {0})} (Err d) (Err c) → d ≡ c
    same d c k = cc
never_if false e apart h = cc

-- ---- formulas

module _ (used : ℕ) (names : List (List ℕ)) (s : NamingForm) (begins : Begins used names s) where
  as_many : (xs : List Sight) → length (new_variables s xs) ≡ further_variables names xs
  as_many xs = ap (λ (ys : List Sight). length (flat_map variables_of ys))
      (first_alike (is_numbered s) (is_known names) begins.known xs)

  sees_room : {A : Type 0} (xs : List Sight) (r : Numbered A) → Sees s xs r
      → HasRoom (used + further_variables names xs) r
  sees_room xs (Ok x) p =
      let room = p.room in
      let many = as_many xs in
      let left = begins.vacant in
      omega arith
  sees_room xs (Err e) p = λ is.
      let more = p is in
      let many = as_many xs in
      let left = begins.vacant in
      omega arith

  formula_room : (at : PlaceForm) (f : tree.Form) → HasRoom (used + further_variables names (sights f))
      (resolved at f s)
  formula_room at f = sees_room (sights f) (resolved at f s) (resolved_sees at f s)

-- an item that begins with nothing
plain : (xs : List Sight) → 0 + further_variables [] xs ≡ variable_count 0 [] [] xs
plain xs = omega arith

-- ---- rules

negated_never : (f : Form) → Never (negated_head f)
negated_never (FAtom q vars) h = cc
negated_never (FSame v w) h = cc
negated_never f h = bad h
  where
    bad : ◌≡◌ {A = OrRefused HeadForm} (Err BadHead) (Err TooManyVariables) → ⊥
    bad k = cc

head_never : (f : Form) → Never (head_of f)
head_never FZero h = cc
head_never (FAtom q vars) h = cc
head_never (FSame v w) h = cc
head_never (FNot f) h = negated_never f h
head_never f h = bad h
  where
    bad : ◌≡◌ {A = OrRefused HeadForm} (Err BadHead) (Err TooManyVariables) → ⊥
    bad k = cc

finish_never : {A B : Type 0} (r : OrRefused A) (g : A → B) → Never r → Never (r >>= λ x. Ok (g x))
finish_never (Ok x) g never h = cc
finish_never {A} {B} (Err e) g never h = never (ap Err (same e TooManyVariables h))
  where
    same : (d c : ResolveError) → ◌≡◌ {A = OrRefused B} (Err d) (Err c) → d ≡ c
    same d c k = cc

abbrev pair_up : Form × NamingForm → Form × NamingForm → (Form × Form) × NamingForm
pair_up f g = ((f.0, g.0), g.1)

abbrev rule_made : Form → HeadForm → RuleForm
rule_made f h = record { body = f; head = h }

rule_end : (Form × Form) × NamingForm → OrRefused RuleForm
rule_end x = head_of x.0.1 >>= λ h. Ok (rule_made x.0.0 h)

rule_joined : (r : Numbered Form) (q : Form × NamingForm → Numbered Form)
    → ((r >>= λ f. q f >>= λ g. Ok (pair_up f g)) >>= rule_end)
    ≡ (r >>= λ f. q f >>= λ g. head_of g.0 >>= λ h. Ok (rule_made f.0 h))
unfolding rule_end
rule_joined (Ok f) q = by (q f)
  where
    by : (out : Numbered Form) → ((out >>= λ g. Ok (pair_up f g)) >>= rule_end)
        ≡ (out >>= λ g. head_of g.0 >>= λ h. Ok (rule_made f.0 h))
    by (Ok g) = refl
    by (Err e) = refl
rule_joined (Err e) q = refl

rule_room : (symbols : List SymbolForm) (body head : tree.Form)
    → HasRoom (variable_count 0 [] [] (sights body ++ sights head)) (rule symbols body head)
unfolding rule rule_end
rule_room symbols body head =
    let place = anywhere symbols in
    let xs = sights body ++ sights head in
    let second : Form × NamingForm → Numbered (Form × Form) = λ f. resolved place head f.1 >>= λ g.
    Ok (pair_up f g) in
    let seen = sees_then no_names (sights body) (sights head) (resolved place body no_names) second
    (resolved_sees place body no_names)
    (λ f. sees_map f.1 (sights head) (resolved place head f.1) (λ g. (f.0, g.0))
    (resolved_sees place head f.1)) in
    let room = sees_room 0 [] no_names nothing_begins xs (resolved place body no_names >>= second) seen in
    subst (λ (n : ℕ). HasRoom n (rule symbols body head)) (plain xs)
    (subst (HasRoom (0 + further_variables [] xs))
    (rule_joined (resolved place body no_names) (λ f. resolved place head f.1))
    (room_then (0 + further_variables [] xs) (resolved place body no_names >>= second) rule_end room
    (λ x. finish_never (head_of x.0.1) (λ h. rule_made x.0.0 h) (head_never x.0.1))))

-- ---- focus formulas, preconditions, messages

formulas_see : (at : PlaceForm) (fs : List tree.Form) (done : List Form × NamingForm)
    → Sees done.1 (flat_map sights fs) (one_by_one (with_formula at) done fs)
formulas_see at [] done = sees_none done.1
formulas_see at (f ∷ fs) done =
    sees_then done.1 (sights f) (flat_map sights fs) (with_formula at done f)
    (λ t. one_by_one (with_formula at) t fs)
    (sees_map done.1 (sights f) (resolved at f done.1) (λ x. done.0 ++ x.0 ∷ []) (resolved_sees at f done.1))
    (λ t. formulas_see at fs t)

focus_room : (symbols : List SymbolForm) (fs : List tree.Form)
    → HasRoom (variable_count 0 [] [] (flat_map sights fs)) (focused symbols fs)
focus_room symbols fs =
    let place = anywhere symbols in
    subst (λ (n : ℕ). HasRoom n (focused symbols fs)) (plain (flat_map sights fs))
    (room_map (0 + further_variables [] (flat_map sights fs)) (resolved_all place fs no_names) (λ x. x.0)
    (sees_room 0 [] no_names nothing_begins (flat_map sights fs) (resolved_all place fs no_names)
    (formulas_see place fs ([], no_names))))

precondition_room : (symbols : List SymbolForm) (f : tree.Form)
    → HasRoom (variable_count 0 [] [] (sights f)) (precondition symbols (Some f))
precondition_room symbols f =
    subst (λ (n : ℕ). HasRoom n (precondition symbols (Some f))) (plain (sights f))
    (room_map (0 + further_variables [] (sights f)) (resolved (anywhere symbols) f no_names)
    (λ x. picking x.0 x.1)
    (formula_room 0 [] no_names nothing_begins (anywhere symbols) f))

message_room : (symbols : List SymbolForm) (f : tree.Form) (pieces : List PieceForm)
    → HasRoom (variable_count 0 [] [] (sights f)) (message symbols f pieces)
unfolding message
message_room symbols f pieces =
    let made : Form × NamingForm → MessageForm = λ x.
    record { cond = x.0; text = flat_map piece_text pieces } in
    subst (λ (n : ℕ). HasRoom n (message symbols f pieces)) (plain (sights f))
    (room_map (0 + further_variables [] (sights f)) (resolved (over symbols []) f no_names) made
    (formula_room 0 [] no_names nothing_begins (over symbols []) f))

-- ---- own variables

hidden_count : (name : List ℕ) (slots : List SlotForm) → vacant_count (hidden name slots) ≡ vacant_count slots
hidden_count name [] = refl
hidden_count name (Vacant ∷ slots) = ap (λ (n : ℕ). 1 + n) (hidden_count name slots)
hidden_count name (Nameless ∷ slots) = hidden_count name slots
hidden_count name (Named word ∷ slots) = by (bytes_eq name word) (hidden_count name slots)
  where
    by : (b : Bool) → vacant_count (hidden name slots) ≡ vacant_count slots
        → vacant_count (cond b Nameless (Named word) ∷ hidden name slots) ≡ vacant_count slots
    by true rest = rest
    by false rest = rest

-- a hidden name has no number, and the others have theirs
hidden_names : (name y : List ℕ) (slots : List SlotForm)
    → (bytes_eq y name || list_any (is_named y) (hidden name slots))
    ≡ (bytes_eq y name || list_any (is_named y) slots)
hidden_names name y [] = refl
hidden_names name y (Vacant ∷ slots) = hidden_names name y slots
hidden_names name y (Nameless ∷ slots) = hidden_names name y slots
hidden_names name y (Named word ∷ slots) = by (bytes_eq name word) refl (hidden_names name y slots)
  where
    by : (b : Bool) → bytes_eq name word ≡ b → (bytes_eq y name || list_any (is_named y) (hidden name slots))
        ≡ (bytes_eq y name || list_any (is_named y) slots)
        → (bytes_eq y name || list_any (is_named y) (cond b Nameless (Named word) ∷ hidden name slots))
        ≡ (bytes_eq y name || (bytes_eq y word || list_any (is_named y) slots))
    by true is rest = rest ∙ twice_said (bytes_eq y name) (bytes_eq y word) (list_any (is_named y) slots)
        (ap (bytes_eq y) ((bytes_eq-Decides name word).0 is))
      where
        twice_said : (p q r : Bool) → p ≡ q → (p || r) ≡ (p || (q || r))
        twice_said true q r e = refl
        twice_said false q r e = rw (sym e) refl
    by false is rest = turned (bytes_eq y name) (bytes_eq y word) (list_any (is_named y) (hidden name slots))
        (list_any (is_named y) slots) rest
      where
        turned : (p q r t : Bool) → (p || r) ≡ (p || t) → (p || (q || r)) ≡ (p || (q || t))
        turned true q r t e = refl
        turned false q r t e = ap (λ (b : Bool). q || b) e

-- what a step that declares so many own variables leaves
abbrev Declares : ℕ → List (List ℕ) → Numbered (List ℕ) → Type 0
Declares used names (Ok x) = Begins used names x.1
Declares used names (Err e) = e ≡ TooManyVariables → 32 < used

declared_begins : (used : ℕ) (names : List (List ℕ)) (name : List ℕ) (s : NamingForm) (out : Numbered ℕ)
    → Begins used names s
    → Fills (Named name) (record s { slots = hidden name s.slots }) out
    → Declares (used + 1) (names ++ name ∷ []) (out >>= λ x. Ok (x.0 ∷ [], x.1))
declared_begins used names name s (Ok x) begins p =
    let count = fill_count (hidden name s.slots) (Named name ∷ []) refl p.some in
    let same = hidden_count name s.slots in
    let left = begins.vacant in
    let now : vacant_count x.1.slots ≡ vacant_count (filled_with (hidden name s.slots) (Named name ∷ []))
    = ap vacant_count p.slots in
    record { vacant = omega (arith, count, same, left, now); known = known }
  where
    known : (y : Sight) → is_numbered x.1 y ≡ is_known (names ++ name ∷ []) y
    known (OfName y) =
        ap (list_any (is_named y)) p.slots ∙ filled_name y (hidden name s.slots) (Named name) p.some
        ∙ hidden_names name y s.slots
        ∙ ap (λ (b : Bool). bytes_eq y name || b) (begins.known (OfName y))
        ∙ swap (bytes_eq y name) (is_among names y)
        ∙ sym (list_any-append (bytes_eq y) names (name ∷ []))
      where
        swap : (p q : Bool) → (p || q) ≡ (q || (p || false))
        swap true true = refl
        swap true false = refl
        swap false true = refl
        swap false false = refl
    known OfPair = ap is_some p.own ∙ begins.known OfPair
declared_begins used names name s (Err e) begins none = λ is.
    let same = hidden_count name s.slots in
    let left = begins.vacant in
    omega (arith, none, same, left)

one_declared : (used : ℕ) (names : List (List ℕ)) (name : List ℕ) (s : NamingForm) → Begins used names s
    → Declares (used + 1) (names ++ name ∷ []) (declared name s >>= λ x. Ok (x.0 ∷ [], x.1))
unfolding declared
one_declared used names name s begins =
    let t : NamingForm = record s { slots = hidden name s.slots } in
    declared_begins used names name s (filled (Named name) t) begins (fills (Named name) t)

all_declared : (used : ℕ) (names params : List (List ℕ)) (s : NamingForm) → Begins used names s
    → Declares (used + length params) (names ++ params) (declared_all params s)
unfolding two_declared
all_declared used names [] s begins =
    let none : used ≡ used + 0 = omega arith in
    subst (λ (n : ℕ). Begins n (names ++ []) s) none
    (subst (λ (xs : List (List ℕ)). Begins used xs s) (sym (append-nil names)) begins)
all_declared used names (v ∷ []) s begins = one_declared used names v s begins
all_declared used names (v ∷ w ∷ []) s begins = by (declared v s) (one_declared used names v s begins)
  where
    second : (x : ℕ × NamingForm) (out : Numbered ℕ)
        → Declares ((used + 1) + 1) ((names ++ v ∷ []) ++ w ∷ []) (out >>= λ y. Ok (y.0 ∷ [], y.1))
        → Declares (used + 2) (names ++ v ∷ w ∷ []) (out >>= λ y. Ok (x.0 ∷ y.0 ∷ [], y.1))
    second x (Ok y) p =
        let two : (used + 1) + 1 ≡ used + 2 = omega arith in
        subst (λ (n : ℕ). Begins n (names ++ v ∷ w ∷ []) y.1) two
        (subst (λ (xs : List (List ℕ)). Begins ((used + 1) + 1) xs y.1)
        (append_assoc names (v ∷ []) (w ∷ [])) p)
    second x (Err e) p = λ is. let more = p is in omega arith

    by : (out : Numbered ℕ) → Declares (used + 1) (names ++ v ∷ []) (out >>= λ x. Ok (x.0 ∷ [], x.1))
        → Declares (used + 2) (names ++ v ∷ w ∷ [])
        (out >>= λ x. declared w x.1 >>= λ y. Ok (x.0 ∷ y.0 ∷ [], y.1))
    by (Ok x) p = second x (declared w x.1) (one_declared (used + 1) (names ++ v ∷ []) w x.1 p)
    by (Err e) p = λ is. let more = p is in omega arith
all_declared used names (v ∷ w ∷ z ∷ more) s begins = λ is. absurd (apart is)
  where
    apart : ArityTooLarge ≡ TooManyVariables → ⊥
    apart e = cc

-- a formula behind own variables
own_room : {A : Type 0} (used more : ℕ) (names : List (List ℕ)) (r : Numbered (List ℕ))
    (next : List ℕ × NamingForm → OrRefused A) → Declares used names r
    → ((x : List ℕ × NamingForm) → Begins used names x.1 → HasRoom (used + more) (next x))
    → HasRoom (used + more) (r >>= next)
own_room used more names (Ok x) next p h = h x p
own_room used more names (Err e) next p h = λ is. let less = p is in omega arith

definition_room : (symbols : List SymbolForm) (params : List (List ℕ)) (body : tree.Form)
    → HasRoom (variable_count 0 [] params (sights body)) (definition symbols params body)
unfolding definition
definition_room symbols params body =
    own_room (0 + length params) (further_variables params (sights body)) params
    (declared_all params no_names) (λ vars. resolved (over symbols vars.0) body vars.1 >>= λ f.
    Ok (KDefined vars.0 f.0))
    (all_declared 0 [] params no_names nothing_begins)
    (λ x begins. room_map (0 + length params + further_variables params (sights body))
    (resolved (over symbols x.0) body x.1) (λ f. KDefined x.0 f.0)
    (formula_room (0 + length params) params x.1 begins (over symbols x.0) body))

-- ---- updates

half_sights : (f : tree.Form) → is_half f ≡ true → sights f ≡ []
half_sights tree.FHalf h = refl
half_sights f h = absurd (false≢true h)

update_room : (symbols : List SymbolForm) (preds : List PredForm) (fresh : Bool) (pre : Option tree.Form)
    (chosen : PickingForm) (done : List model.UpdateForm) (known : KnownForm) (params : List (List ℕ))
    (body : tree.Form) → precondition symbols pre ≡ Ok chosen
    → HasRoom (variable_count (length chosen.picks) (picked_names pre) params (sights body))
    (update_of_pred symbols preds fresh chosen done known params body)
unfolding update_of_pred
update_room symbols preds fresh pre chosen done known params body h =
    let names = picked_names pre in
    let used = length chosen.picks + length params in
    let many = further_variables (names ++ params) (sights body) in
    let begun = precondition_begun symbols pre chosen h in
    let core = is_core_pred (slice_get preds known.pred) in
    let with_vars : List ℕ × NamingForm → OrRefused model.UpdateForm = λ vars.
    change (updating symbols fresh vars.0 chosen.picks) core body vars.1 >>= λ to.
    Ok (record { pred = known.pred; vars = vars.0; change = to }) in
    let new_pred : OrRefused model.UpdateForm = refused_if (is_updated done known.pred) UpdateTwice >>= λ c.
    declared_all params chosen.picked >>= with_vars in
    room_behind (used + many) (refused_if (not (length params == known.arity)) ArityWrong)
    (λ a. refused_if (twice params) NameTwice >>= λ b. new_pred)
    (never_if (not (length params == known.arity)) ArityWrong (λ e. cc))
    (λ a. room_behind (used + many) (refused_if (twice params) NameTwice) (λ b. new_pred)
    (never_if (twice params) NameTwice (λ e. cc))
    (λ b. room_behind (used + many) (refused_if (is_updated done known.pred) UpdateTwice)
    (λ c. declared_all params chosen.picked >>= with_vars)
    (never_if (is_updated done known.pred) UpdateTwice (λ e. cc))
    (λ c. own_room used many (names ++ params) (declared_all params chosen.picked) with_vars
    (all_declared (length chosen.picks) names params chosen.picked begun.begins)
    (λ x begins. room_map (used + many) (change (updating symbols fresh x.0 chosen.picks) core body x.1)
    (λ to. record { pred = known.pred; vars = x.0; change = to })
    (change_room used (names ++ params) x.1 begins (updating symbols fresh x.0 chosen.picks) core body)))))
  where
    change_room : (used : ℕ) (names : List (List ℕ)) (s : NamingForm) → Begins used names s
        → (at : PlaceForm) (core : Bool) (f : tree.Form)
        → HasRoom (used + further_variables names (sights f)) (change at core f s)
    change_room used names s begins at core f = by (is_half f) refl core
      where
        by : (b : Bool) → is_half f ≡ b → (c : Bool)
            → HasRoom (used + further_variables names (sights f))
            (cond (b && c) (Ok CFree) (resolved at f s >>= λ x. Ok (CTo x.0)))
        by true e true = let left = begins.vacant in rw (half_sights f e) (omega arith)
        by true e false = room_map (used + further_variables names (sights f)) (resolved at f s)
            (λ x. CTo x.0) (formula_room used names s begins at f)
        by false e c = room_map (used + further_variables names (sights f)) (resolved at f s) (λ x. CTo x.0)
            (formula_room used names s begins at f)

-- ---- retain formulas

all_known : (K : List ℕ → Bool) (xs : List (List ℕ)) → list_all K xs ≡ not (has_other K xs)
all_known K [] = refl
all_known K (x ∷ xs) = by (K x) (all_known K xs)
  where
    by : (b : Bool) → list_all K xs ≡ not (has_other K xs)
        → (b && list_all K xs) ≡ not (not b || has_other K xs)
    by true rest = rest
    by false rest = refl

-- the variable for the individual
module _ (used : ℕ) (names : List (List ℕ)) (s t : NamingForm) (xs : List Sight)
    (begins : Begins used names s) (sees : Follows s xs t) where
  fill_room : (out : Numbered ℕ) → Fills Nameless t out
      → HasRoom ((used + further_variables names xs) + 1) out
  fill_room (Ok x) p =
      let some = p.some in
      let left = left_over s t xs sees in
      let many = as_many used names s begins xs in
      let all = begins.vacant in
      omega arith
  fill_room (Err e) p = λ is.
      let left = left_over s t xs sees in
      let many = as_many used names s begins xs in
      let all = begins.vacant in
      omega arith

  number_room : (o : Option ℕ) → HasRoom ((used + further_variables names xs) + cond (not (is_some o)) 1 0)
      (further_number o t)
  number_room (Some v) =
      let room = sees.room in
      let many = as_many used names s begins xs in
      let all = begins.vacant in
      omega arith
  number_room None = room_map ((used + further_variables names xs) + 1) (filled Nameless t) (λ x. x.0)
      (fill_room (filled Nameless t) (fills Nameless t))

abbrev retained : Form → ℕ → Option RetainForm
retained f v = Some (record { var = v; keep = f })

retain_by : (symbols : List SymbolForm) (fresh : Bool) (begun : PickingForm) (names : List (List ℕ))
    (f : tree.Form)
    → IsBegun names begun → (r : Numbered Form) → resolved (retaining symbols fresh begun.picks) f
    begun.picked ≡ r
    → Sees begun.picked (sights f) r
    → HasRoom ((length begun.picks + further_variables names (sights f)) + one_more names f)
    (r >>= λ x. further_number x.1.further x.1 >>= λ v. Ok (retained x.0 v))
retain_by symbols fresh begun names f is (Err e) gave sees = λ too.
    let many = as_many (length begun.picks) names begun.picked is.begins (sights f) in
    let left = is.begins.vacant in
    let more = sees too in
    omega arith
retain_by symbols fresh begun names f is (Ok x) gave sees =
    let count = length begun.picks + further_variables names (sights f) in
    let free = formula_free f (retaining symbols fresh begun.picks) (is_among names) begun.picked x is.knows
    gave in
    let more : is_some x.1.further ≡ has_other (is_among names) (free_names f) =
    free.further refl ∙ ap (λ (o : Option ℕ). is_some o || has_other (is_among names) (free_names f))
    is.further in
    let extra : one_more names f ≡ cond (not (is_some x.1.further)) 1 0 =
    ap (λ (b : Bool). cond b 1 0) (all_known (is_among names) (free_names f) ∙ ap not (sym more)) in
    room_map (count + one_more names f) (further_number x.1.further x.1) (λ v. retained x.0 v)
    (subst (λ (n : ℕ). HasRoom (count + n) (further_number x.1.further x.1)) (sym extra)
    (number_room (length begun.picks) names begun.picked x.1 (sights f) is.begins sees x.1.further))

retain_room : (symbols : List SymbolForm) (fresh : Bool) (pre : Option tree.Form) (begun : PickingForm)
    (f : tree.Form)
    → precondition symbols pre ≡ Ok begun
    → HasRoom (variable_count (length begun.picks) (picked_names pre) [] (sights f)
    + one_more (picked_names pre) f)
    (retain symbols fresh begun (Some f))
retain_room symbols fresh pre begun f h =
    let names = picked_names pre in
    let place = retaining symbols fresh begun.picks in
    let same = ap (λ (xs : List (List ℕ)). further_variables xs (sights f)) (append-nil names) in
    let count : length begun.picks + further_variables names (sights f)
    ≡ variable_count (length begun.picks) names [] (sights f) = omega (arith, same) in
    subst (λ (n : ℕ). HasRoom (n + one_more names f) (retain symbols fresh begun (Some f))) count
    (retain_by symbols fresh begun names f (precondition_begun symbols pre begun h)
    (resolved place f begun.picked) refl
    (resolved_sees place f begun.picked))

pub items_have_room : ItemsHave32Variables
items_have_room = record {
  definitions = definition_room;
  rules = rule_room;
  focus = focus_room;
  preconditions = precondition_room;
  messages = message_room;
  retained = retain_room;
  updates = update_room;
}
