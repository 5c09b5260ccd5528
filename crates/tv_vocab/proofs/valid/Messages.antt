-- The focus formulas, messages and retain formulas that resolution gives.
use Rattle.std.proofs.Common.{◌≡◌, ℕ, ◌+◌, ◌<◌, ◌≤◌, Bool, false, get_or, List, [], ◌∷◌, ◌++◌, length, refl}
use Rattle.std.proofs.Common.{ap, sym, subst, ◌∙◌, arith, length-append, inl, inr, ◌⊎◌, Ok, Option, Some}
use Rattle.std.proofs.Common.{None, ◌≢◌}
use Rattle.std.specs.Prelude.{All, Contains, sum_by}
use Rattle.std.specs.List.{flat_map}
use Rattle.std.proofs.lemmas.Bool.{true≢false}
use Rattle.std.proofs.lemmas.List.Elements.{All-nil, All-head, All-tail, All-append, All-push}
use Rattle.std.proofs.lemmas.List.Sums.{sum_by-cons}
use Rattle.tv_tree.specs.Forms as tree
use Rattle.tv_tree.specs.Forms.{PieceForm, Quoted, Spelled, PartForm, PCaption, PFocus, PPre, PMessage, PNew}
use Rattle.tv_tree.specs.Forms.{PRetain, PBlock}
use Rattle.tv_model.specs.Form.{Form}
use Rattle.tv_model.specs.Spelling.{IsText}
use Rattle.tv_model.specs.Program.{ProgramForm, MessageForm, RetainForm, ActionForm}
use Rattle.tv_model.specs.Valid.{IsPlainFormula, IsMessage, IsRetain}
use Rattle.tv_flat.specs.FlatForm.{part_items}
use Rattle.tv_vocab.specs.Premise.{IsTextPiece, HasTexts}
use Rattle.tv_names.specs.declared.place.Others.TheVariants.{Any, Once}
use Rattle.tv_names.specs.Refusal.{◌>>=◌, one_by_one}
use Rattle.tv_names.specs.Symbols.{SymbolForm}
use Rattle.tv_names.specs.Naming.{NamingForm, Nameless, filled, no_names}
use Rattle.tv_names.specs.Picks.{flags_of}
use Rattle.tv_names.specs.Resolving.{resolved}
use Rattle.tv_vocab.specs.Vocabulary.{anywhere, over}
use Rattle.tv_vocab.specs.Actions.{PickingForm, with_formula, resolved_all, focused, piece_text, message}
use Rattle.tv_vocab.specs.Actions.{with_part, messages, further_number, retaining, retain}
use Rattle.tv_vocab.proofs.valid.Refusals.{ok_is, some_is, not_none, went, after_each}
use Rattle.tv_vocab.proofs.valid.Numbers.{IsHeld, IsSound, not_held, filled_new, no_names_sound}
use Rattle.tv_vocab.proofs.valid.Parts.{AreSymbols, Stands, stands_then, IsAllowed, AsKnown, AsAny, AsFurther}
use Rattle.tv_vocab.proofs.valid.Atoms.{contains_none}
use Rattle.tv_vocab.proofs.valid.Formulas.{formula_given}
use Rattle.tv_vocab.proofs.valid.Flags.{contains_head, contains_tail, known_from, known_to}
use Rattle.tv_vocab.proofs.valid.Predicates.{over_given}
use Rattle.tv_vocab.proofs.valid.Rules.{stands_anywhere, plain}
use Rattle.tv_vocab.proofs.valid.Picked.{IsPicking}

-- ---- focus

record AreFocused (p : ProgramForm) (symbols : List SymbolForm) (x : List Form × NamingForm) : Type 0 where
  stands : Stands p (anywhere symbols) x.1
  plain : All (IsPlainFormula p) x.0

focus_more : (p : ProgramForm) (symbols : List SymbolForm) (x y : List Form × NamingForm) (f : tree.Form) → AreFocused p symbols x → with_formula (anywhere symbols) x f ≡ Ok y → AreFocused p symbols y
focus_more p symbols x y f are h =
    let at = anywhere symbols in
    let a = went (resolved at f x.1) (λ z. Ok (x.0 ++ z.0 ∷ [], z.1)) y h in
    let gives = formula_given p f at x.1 a.x are.stands a.gave in
    subst (AreFocused p symbols) (ok_is (x.0 ++ a.x.0 ∷ [], a.x.1) y a.rest)
    (record {
      stands = stands_then p at x.1 a.x.1 are.stands gives.part;
      plain = All-push (IsPlainFormula p) x.0 a.x.0 are.plain (plain p symbols x.1 a.x gives);
    })

pub focus_given : (p : ProgramForm) (symbols : List SymbolForm) (fs : List tree.Form) (ys : List Form) → AreSymbols p symbols → focused symbols fs ≡ Ok ys → All (IsPlainFormula p) ys
focus_given p symbols fs ys are h =
    let a = went (resolved_all (anywhere symbols) fs no_names) (λ x. Ok x.0) ys h in
    let first : AreFocused p symbols ([], no_names) = record { stands = stands_anywhere p symbols are; plain = All-nil (IsPlainFormula p) } in
    let all = after_each (with_formula (anywhere symbols)) (AreFocused p symbols) (λ f. Unit {0}) (λ s t f q here given. focus_more p symbols s t f here given) fs ([], no_names) a.x (λ k d lt. tt) first a.gave in
    subst (All (IsPlainFormula p)) (ok_is a.x.0 ys a.rest) all.plain

-- ---- messages

text_given : (pieces : List PieceForm) → All IsTextPiece pieces → IsText (flat_map piece_text pieces)
text_given [] all = All-nil (λ b. (32 ≤ b) × (b ≤ 126) × (b ≢ 34))
text_given (x ∷ xs) all =
    All-append (λ b. (32 ≤ b) × (b ≤ 126) × (b ≢ 34)) (piece_text x) (flat_map piece_text xs) (All-head IsTextPiece x xs all) (text_given xs (All-tail IsTextPiece x xs all))

message_given : (p : ProgramForm) (symbols : List SymbolForm) (f : tree.Form) (pieces : List PieceForm) (m : MessageForm) → AreSymbols p symbols → All IsTextPiece pieces → message symbols f pieces ≡ Ok m → IsMessage p m
unfolding message
message_given p symbols f pieces m are one h =
    let a = went (resolved (over symbols []) f no_names) (λ x. Ok (record { cond = x.0; text = flat_map piece_text pieces })) m h in
    let formula = over_given p symbols [] f no_names a.x are no_names_sound (λ v k. absurd (contains_none v k)) a.gave in
    subst (IsMessage p) (ok_is (record { cond = a.x.0; text = flat_map piece_text pieces }) m a.rest) (formula.0, formula.1, text_given pieces one)

message_more : (p : ProgramForm) (symbols : List SymbolForm) (done more : List MessageForm) (part : PartForm) → AreSymbols p symbols → HasTexts part → All (IsMessage p) done → with_part symbols done part ≡ Ok more → All (IsMessage p) more
message_more p symbols done more (PMessage f ps) are flat all h =
    let a = went (message symbols f ps) (λ m. Ok (done ++ m ∷ [])) more h in
    subst (All (IsMessage p)) (ok_is (done ++ a.x ∷ []) more a.rest) (All-push (IsMessage p) done a.x all (message_given p symbols f ps a.x are flat a.gave))
message_more p symbols done more (PCaption ps) are flat all h = subst (All (IsMessage p)) (ok_is done more h) all
message_more p symbols done more (PFocus fs) are flat all h = subst (All (IsMessage p)) (ok_is done more h) all
message_more p symbols done more (PPre f) are flat all h = subst (All (IsMessage p)) (ok_is done more h) all
message_more p symbols done more PNew are flat all h = subst (All (IsMessage p)) (ok_is done more h) all
message_more p symbols done more (PRetain f) are flat all h = subst (All (IsMessage p)) (ok_is done more h) all
message_more p symbols done more (PBlock us) are flat all h = subst (All (IsMessage p)) (ok_is done more h) all

pub messages_given : (p : ProgramForm) (symbols : List SymbolForm) (parts : List PartForm) (ys : List MessageForm) → AreSymbols p symbols → All HasTexts parts → messages symbols parts ≡ Ok ys → All (IsMessage p) ys
messages_given p symbols parts ys are flat h =
    after_each (with_part symbols) (All (IsMessage p)) HasTexts (λ s t x q here given. message_more p symbols s t x are q here given) parts [] ys flat (All-nil (IsMessage p)) h

kept_length : (done more : List MessageForm) (n : ℕ) → done ≡ more → length more ≤ length done + n
kept_length done more n e = let g = ap length e in omega arith

message_length : (symbols : List SymbolForm) (done more : List MessageForm) (part : PartForm) → with_part symbols done part ≡ Ok more → length more ≤ length done + part_items part
message_length symbols done more (PMessage f ps) h =
    let a = went (message symbols f ps) (λ m. Ok (done ++ m ∷ [])) more h in
    let g = ap length (ok_is (done ++ a.x ∷ []) more a.rest) in
    omega (arith, length-append done (a.x ∷ []), g)
message_length symbols done more (PCaption ps) h = kept_length done more 1 (ok_is done more h)
message_length symbols done more (PFocus fs) h = kept_length done more 1 (ok_is done more h)
message_length symbols done more (PPre f) h = kept_length done more 1 (ok_is done more h)
message_length symbols done more PNew h = kept_length done more 1 (ok_is done more h)
message_length symbols done more (PRetain f) h = kept_length done more 1 (ok_is done more h)
message_length symbols done more (PBlock us) h = kept_length done more (part_items (PBlock us)) (ok_is done more h)

pub messages_length : (symbols : List SymbolForm) (parts : List PartForm) (done more : List MessageForm) → one_by_one (with_part symbols) done parts ≡ Ok more → length more ≤ length done + sum_by part_items parts
messages_length symbols [] done more h = let g = ap length (ok_is done more h) in omega arith
messages_length symbols (part ∷ parts) done more h =
    let a = went (with_part symbols done part) (λ t. one_by_one (with_part symbols) t parts) more h in
    let one = message_length symbols done a.x part a.gave in
    let rest = messages_length symbols parts a.x more a.rest in
    let sum : sum_by part_items (part ∷ parts) ≡ part_items part + sum_by part_items parts = sum_by-cons part_items part parts in
    omega (arith, sum)

-- ---- retain

once_any : Once ≡ Any → ⊥
once_any e = cc

allowed_in_retain : (symbols : List SymbolForm) (fresh : Bool) (picks : List ℕ) (t : NamingForm) (v : ℕ) → IsAllowed (retaining symbols fresh picks) t v → Contains picks v ⊎ (t.further ≡ Some v)
allowed_in_retain symbols fresh picks t v (AsKnown h) = inl (known_from picks v h)
allowed_in_retain symbols fresh picks t v (AsAny h) = absurd (once_any h)
allowed_in_retain symbols fresh picks t v (AsFurther h e) = inr e

-- the variable of a retain formula, beside the picked ones
record IsKeeper (picks : List ℕ) (t : NamingForm) (v : ℕ) : Type 0 where
  variable : v < 32
  other : Contains picks v → ⊥
  further : (u : ℕ) → t.further ≡ Some u → u ≡ v

keeper : (o : Option ℕ) (picks : List ℕ) (t : NamingForm) (v : ℕ) → t.further ≡ o → IsSound t → ((u : ℕ) → Contains picks u → IsHeld t.slots u) → ((u : ℕ) → t.further ≡ Some u → get_or (flags_of picks) u false ≡ false) → further_number o t ≡ Ok v → IsKeeper picks t v
keeper (Some w) picks t v is sound held free h =
    subst (IsKeeper picks t) (ok_is w v h)
    (record {
      variable = sound.further w is;
      other = λ k. true≢false (sym (known_to picks w (sound.further w is) k) ∙ free w is);
      further = λ u e. some_is u w (sym e ∙ is);
    })
keeper None picks t v is sound held free h =
    let a = went (filled Nameless t) (λ x. Ok x.0) v h in
    let new = filled_new Nameless t a.x refl sound a.gave in
    subst (IsKeeper picks t) (ok_is a.x.0 v a.rest)
    (record {
      variable = new.held.within;
      other = λ k. not_held t.slots a.x.0 a.x.0 (held a.x.0 k) new.vacant refl;
      further = λ u e. absurd (not_none u (sym is ∙ e));
    })

pub retain_given : (p : ProgramForm) (symbols : List SymbolForm) (act : ActionForm) (picking : PickingForm) (f : Option tree.Form) (y : Option RetainForm) → AreSymbols p symbols → IsPicking p picking → picking.picks ≡ act.picks → retain symbols act.fresh picking f ≡ Ok y → IsRetain p act y
retain_given p symbols act picking None y are is same h = subst (IsRetain p act) (ok_is None y h) tt
retain_given p symbols act picking (Some f) y are is same h =
    let at = retaining symbols act.fresh picking.picks in
    let a = went (resolved at f picking.picked) (λ x. further_number x.1.further x.1 >>= λ v. Ok (Some (record { var = v; keep = x.0 }))) y h in
    let b = went (further_number a.x.1.further a.x.1) (λ v. Ok (Some (record { var = v; keep = a.x.0 }))) y a.rest in
    let st : Stands p at picking.picked = record { sound = is.sound; symbols = are; known = λ v k. is.held v (known_from picking.picks v k) } in
    let gives = formula_given p f at picking.picked a.x st a.gave in
    let keeps = keeper a.x.1.further picking.picks a.x.1 b.x refl gives.part.sound (λ u k. gives.part.held u (is.held u k))
    (λ u e. elim (gives.part.new_further u e) [ inl k ↦ absurd (not_none u (sym is.none ∙ k)) | inr k ↦ k ]) b.gave in
    subst (IsRetain p act) (ok_is (Some (record { var = b.x; keep = a.x.0 })) y b.rest) (
      (gives.formed, gives.new),
      (λ v k. elim (allowed_in_retain symbols act.fresh picking.picks a.x.1 v (gives.free v k).allowed) [
        | inl c ↦ contains_tail b.x v act.picks (subst (λ (vs : List ℕ). Contains vs v) same c)
        | inr e ↦ subst (λ (u : ℕ). Contains (u ∷ act.picks) v) (keeps.further v e) (contains_head v act.picks)
      ]),
      keeps.variable,
      λ k. keeps.other (subst (λ (vs : List ℕ). Contains vs b.x) (sym same) k),
    )
