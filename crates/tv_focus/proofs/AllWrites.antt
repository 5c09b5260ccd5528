-- What is written copy by copy is what a choice writes.
use Rattle.std.proofs.lemmas.List.{append_assoc}
use Rattle.std.proofs.Common.{ℕ, ◌≡◌, ◌<◌, ◌+◌, suc, List, [], ◌∷◌, ◌++◌, refl, sym, ap, subst, ◌∙◌, arith}
use Rattle.std.proofs.Common.{All, length, map, get_or}
use Rattle.std.specs.List.{flat_map, range_with_len}
use Rattle.std.proofs.lemmas.List.{length-map}
use Rattle.std.proofs.lemmas.List.Elements.{All-head, All-tail}
use Rattle.tv_kleene.specs.declared.K3.{K3}
use Rattle.tv_structure_form.specs.StructureForm.{StructureForm, structure_of}
use Rattle.tv_focus_laws.specs.Choices.{AimForm, Alone, Before, Behind, ChoiceForm, VectorSet, MemberForm}
use Rattle.tv_focus_laws.specs.Choices.{members, members_of, member_at, copy_of}
use Rattle.tv_focus_laws.specs.Written.{WriteForm, vector_writes, copy_writes, all_writes}
use Rattle.tv_focus_laws.proofs.Splits.{mark-place}
use Rattle.tv_focus.specs.Anchored.{IsAimOver}
use Rattle.tv_focus_step_laws.specs.Above.{writes_at}
use Rattle.tv_focus.specs.Puts.{set_writes, choice_writes, copy_number, aim_in}
use Rattle.tv_focus.proofs.Parts.{PartsAre}

-- ---- one copy

vector-writes-map : (tuple : ℕ → List ℕ) (g h : ℕ → ℕ) (anchors : List ℕ) (vector : List K3)
    → All (λ a. g a ≡ h a) anchors
    → vector_writes (λ a. tuple (g a)) anchors vector ≡ vector_writes tuple (map h anchors) vector
vector-writes-map tuple g h [] vector same = refl
vector-writes-map tuple g h (a ∷ anchors) [] same = refl
vector-writes-map tuple g h (a ∷ anchors) (x ∷ vector) same =
    ap (λ b. record { tuple = tuple b; value = x } ∷ vector_writes (λ a. tuple (g a)) anchors vector)
    (All-head (λ a. g a ≡ h a) a anchors same)
    ∙ ap (λ (writes : List WriteForm). record { tuple = tuple (h a); value = x } ∷ writes)
    (vector-writes-map tuple g h anchors vector (All-tail (λ a. g a ≡ h a) a anchors same))

copy-writes-same : (ms : List MemberForm) (choice : ChoiceForm) (aim : AimForm) (s : StructureForm) (pred : ℕ)
    → IsAimOver s pred aim → ((a : ℕ) → a < s.size → copy_of ms a ≡ copy_number choice a) → (i : ℕ)
    → copy_writes aim ms i ≡ writes_at (aim_in choice aim) i (member_at ms i).vector
copy-writes-same ms choice Alone s pred over place i = refl
copy-writes-same ms choice (Before anchors) s pred over place i =
    vector-writes-map (λ b. i ∷ b ∷ []) (copy_of ms) (copy_number choice) anchors (member_at ms i).vector
    (λ k d lt. place (get_or anchors k d) (over.1 k d lt))
copy-writes-same ms choice (Behind anchors) s pred over place i =
    vector-writes-map (λ b. b ∷ i ∷ []) (copy_of ms) (copy_number choice) anchors (member_at ms i).vector
    (λ k d lt. place (get_or anchors k d) (over.1 k d lt))

-- ---- all copies

-- what is written for members, of which the first is the copy `at`
abbrev pub member_writes : (ℕ → List K3 → List WriteForm) → (at : ℕ) → List MemberForm → List WriteForm
member_writes F at [] = []
member_writes F at (m ∷ ms) = F at m.vector ++ member_writes F (at + 1) ms

walk : (G : ℕ → List WriteForm) (F : ℕ → List K3 → List WriteForm) (at : ℕ) (ms : List MemberForm)
    → ((k : ℕ) → k < length ms → G (at + k) ≡ F (at + k) (member_at ms k).vector)
    → flat_map G (range_with_len at (length ms)) ≡ member_writes F at ms
walk G F at [] same = refl
walk G F at (m ∷ ms) same =
    let At : ℕ → Type 0 = λ n. G n ≡ F n m.vector
    in let first : G at ≡ F at m.vector = subst At (omega arith) (same 0 (omega arith))
    in let later : (k : ℕ) → k < length ms → G (at + 1 + k) ≡ F (at + 1 + k) (member_at ms k).vector
    = λ k lt. let Of : ℕ → Type 0 = λ n. G n ≡ F n (member_at ms k).vector
    in subst Of (omega arith) (same (suc k) (omega (arith, lt)))
    in ap (λ writes. writes ++ flat_map G (range_with_len (at + 1) (length ms))) first
    ∙ ap (λ writes. F at m.vector ++ writes) (walk G F (at + 1) ms later)

member-writes-append : (F : ℕ → List K3 → List WriteForm) (at : ℕ) (xs ys : List MemberForm)
    → member_writes F at (xs ++ ys) ≡ member_writes F at xs ++ member_writes F (at + length xs) ys
member-writes-append F at [] ys = ap (λ n. member_writes F n ys) (omega arith)
member-writes-append F at (x ∷ xs) ys =
    ap (λ writes. F at x.vector ++ writes)
    (member-writes-append F (at + 1) xs ys
    ∙ ap (λ n. member_writes F (at + 1) xs ++ member_writes F n ys) (omega arith))
    ∙ sym (append_assoc (F at x.vector) (member_writes F (at + 1) xs) (member_writes F (at + length (x ∷ xs)) ys))

set-writes-are : (aim : AimForm) (u at : ℕ) (set : VectorSet)
    → member_writes (writes_at aim) at (members_of u set) ≡ set_writes aim at set
set-writes-are aim u at [] = refl
set-writes-are aim u at (vector ∷ set) =
    ap (λ writes. writes_at aim at vector ++ writes) (set-writes-are aim u (at + 1) set)

choice-writes-are : (aim : AimForm) (n at : ℕ) (choice : ChoiceForm)
    → member_writes (writes_at aim) at (members (range_with_len n (length choice)) choice) ≡ choice_writes aim at choice
choice-writes-are aim n at [] = refl
choice-writes-are aim n at (set ∷ choice) =
    let later : List MemberForm = members (range_with_len (n + 1) (length choice)) choice
    in member-writes-append (writes_at aim) at (members_of n set) later
    ∙ ap (λ writes. writes ++ member_writes (writes_at aim) (at + length (members_of n set)) later) (set-writes-are aim n at set)
    ∙ ap (λ k. set_writes aim at set ++ member_writes (writes_at aim) (at + k) later)
    (length-map set (λ (vector : List K3). record { origin = n; vector = vector }))
    ∙ ap (λ writes. set_writes aim at set ++ writes) (choice-writes-are aim (n + 1) (at + length set) choice)

pub all-writes-are : (s : StructureForm) (pred : ℕ) (aim : AimForm) (choice : ChoiceForm) → PartsAre s choice
    → IsAimOver s pred aim
    → all_writes aim (members (structure_of s).individuals choice) ≡ choice_writes (aim_in choice aim) 0 choice
all-writes-are s pred aim choice parts over =
    let Of : ℕ → Type 0 = λ n. all_writes aim (members (range_with_len 0 n) choice) ≡ choice_writes (aim_in choice aim) 0 choice
    in let ms : List MemberForm = members (range_with_len 0 (length choice)) choice
    in subst Of parts.individuals
    (walk (copy_writes aim ms) (writes_at (aim_in choice aim)) 0 ms
    (λ k lt. copy-writes-same ms choice aim s pred over place (0 + k) ∙ ap (λ i. writes_at (aim_in choice aim) (0 + k) (member_at ms i).vector) (omega arith))
    ∙ choice-writes-are (aim_in choice aim) 0 0 choice)
  where
    place : (a : ℕ) → a < s.size → copy_of (members (range_with_len 0 (length choice)) choice) a ≡ copy_number choice a
    place a lt = mark-place choice 0 a a (omega arith) (omega (arith, lt, parts.individuals)) parts.sets
