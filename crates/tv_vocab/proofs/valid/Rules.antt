-- The rules that resolution gives.
use Rattle.std.proofs.Common.{◌≡◌, true, false, List, [], length, subst, Ok}
use Rattle.std.specs.Prelude.{All}
use Rattle.std.proofs.lemmas.Bool.{false≢true}
use Rattle.tv_tree.specs.Forms as tree
use Rattle.tv_model.specs.Form.{Form, FZero, FAtom, FSame, FNot}
use Rattle.tv_model.specs.Program.{ProgramForm, RuleForm, HeadForm, HNever, HAtom, HSame}
use Rattle.tv_model.specs.Valid.{IsFormula, IsPlainFormula, IsHead, IsRule}
use Rattle.tv_flat.specs.FlatForm as flat
use Rattle.tv_names.specs.declared.refusal.ResolveError.TheVariants.{HeadForm as BadHead}
use Rattle.tv_names.specs.Refusal.{◌>>=◌, OrRefused, each}
use Rattle.tv_names.specs.Symbols.{SymbolForm}
use Rattle.tv_names.specs.Naming.{NamingForm, no_names}
use Rattle.tv_names.specs.Resolving.{resolved}
use Rattle.tv_vocab.specs.Vocabulary.{anywhere, negated_head, head_of, rule}
use Rattle.tv_vocab.proofs.valid.Refusals.{ok_is, not_given, went}
use Rattle.tv_vocab.proofs.valid.Numbers.{no_names_sound}
use Rattle.tv_vocab.proofs.valid.Parts.{AreSymbols, Stands, stands_then, GivesForm}
use Rattle.tv_vocab.proofs.valid.Atoms.{contains_none}
use Rattle.tv_vocab.proofs.valid.Formulas.{formula_given}
use Rattle.tv_vocab.proofs.valid.Flags.{known_from}
use Rattle.tv_vocab.proofs.valid.Zips.{each_zip, zip_all, zip_length}

pub stands_anywhere : (p : ProgramForm) (symbols : List SymbolForm) → AreSymbols p symbols → Stands p (anywhere symbols) no_names
stands_anywhere p symbols are = record { sound = no_names_sound; symbols = are; known = λ v h. absurd (contains_none v (known_from [] v h)) }

pub plain : (p : ProgramForm) (symbols : List SymbolForm) (s : NamingForm) (x : Form × NamingForm) → GivesForm p (anywhere symbols) s x → IsPlainFormula p x.0
plain p symbols s x gives = (gives.formed, λ k. false≢true (gives.new k))

negated_given : (p : ProgramForm) (f : Form) (h : HeadForm) → IsFormula p f → negated_head f ≡ Ok h → IsHead p h
negated_given p (FAtom q vars) h k e = subst (IsHead p) (ok_is (HAtom false q vars) h e) k
negated_given p (FSame v w) h k e = subst (IsHead p) (ok_is (HSame false v w) h e) k
negated_given p f h k e = absurd (not_given BadHead h e)

head_given : (p : ProgramForm) (f : Form) (h : HeadForm) → IsFormula p f → head_of f ≡ Ok h → IsHead p h
head_given p FZero h k e = subst (IsHead p) (ok_is HNever h e) tt
head_given p (FAtom q vars) h k e = subst (IsHead p) (ok_is (HAtom true q vars) h e) k
head_given p (FSame v w) h k e = subst (IsHead p) (ok_is (HSame true v w) h e) k
head_given p (FNot f) h k e = negated_given p f h k e
head_given p f h k e = absurd (not_given BadHead h e)

rule_given : (p : ProgramForm) (symbols : List SymbolForm) (body head : tree.Form) (r : RuleForm) → AreSymbols p symbols → rule symbols body head ≡ Ok r → IsRule p r
unfolding rule
rule_given p symbols body head r are h =
    let a = went (resolved (anywhere symbols) body no_names) (λ f. resolved (anywhere symbols) head f.1 >>= λ g. head_of g.0 >>= λ e. Ok (record { body = f.0; head = e })) r h in
    let b = went (resolved (anywhere symbols) head a.x.1) (λ g. head_of g.0 >>= λ e. Ok (record { body = a.x.0; head = e })) r a.rest in
    let c = went (head_of b.x.0) (λ e. Ok (record { body = a.x.0; head = e })) r b.rest in
    let st = stands_anywhere p symbols are in
    let one = formula_given p body (anywhere symbols) no_names a.x st a.gave in
    let two = formula_given p head (anywhere symbols) a.x.1 b.x (stands_then p (anywhere symbols) no_names a.x.1 st one.part) b.gave in
    subst (IsRule p) (ok_is (record { body = a.x.0; head = c.x }) r c.rest)
    (plain p symbols no_names a.x one, head_given p b.x.0 c.x two.formed c.gave)

pub rules_valid : (p : ProgramForm) (symbols : List SymbolForm) (rs : List flat.RuleForm) (ys : List RuleForm) → AreSymbols p symbols → each (λ r. rule symbols r.body r.head) rs ≡ Ok ys → All (IsRule p) ys
rules_valid p symbols rs ys are h =
    zip_all (λ r y. rule symbols r.body r.head ≡ Ok y) (λ r. Unit {0}) (IsRule p) (λ r y q e. rule_given p symbols r.body r.head y are e) rs ys
    (each_zip (λ r. rule symbols r.body r.head) rs ys h) (λ k d lt. tt)

pub as_many : {A B : Type 0} (step : A → OrRefused B) (xs : List A) (ys : List B) → each step xs ≡ Ok ys → length xs ≡ length ys
as_many step xs ys h = zip_length (λ x y. step x ≡ Ok y) xs ys (each_zip step xs ys h)
