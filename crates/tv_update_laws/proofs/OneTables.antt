-- The tables that an action gives are determined.
use Rattle.std.proofs.Common.{ℕ, ◌≡◌, ◌<◌, List, [], ◌∷◌, length, map, get_or, sym, ap, subst, ◌∙◌, Contains}
use Rattle.std.proofs.Common.{arith}
use Rattle.std.specs.List.{range_with_len, AllZip}
use Rattle.std.proofs.lemmas.List.{map-id}
use Rattle.std.proofs.lemmas.List.Elements.{All-contains}
use Rattle.std.proofs.lemmas.List.FromFn.{length-map-range_with_len, get_or-map-range_with_len}
use Rattle.tv_model.specs.declared.program.Mode.{Mode}
use Rattle.tv_model.specs.Form.{FZero}
use Rattle.tv_model.specs.Program.{ProgramForm, ActionForm}
use Rattle.tv_model.specs.Truth.{Assignment}
use Rattle.tv_model.specs.Valid.{IsValid, IsAction}
use Rattle.tv_embedding_laws.specs.LogicalStructure.{LogicalStructure}
use Rattle.tv_structure_form.specs.StructureForm.{StructureForm, structure_of, value_at}
use Rattle.tv_structure_form.proofs.Library.{Contains-range, below-range, All-individuals}
use Rattle.tv_update_laws.specs.Applied.{keep_value, IsNew}
use Rattle.tv_update_laws.specs.Choices.{choices_of, stays_in}
use Rattle.tv_update_laws.specs.Tables.{SaysSame, GivenTablesAreOne}
use Rattle.tv_update_laws.proofs.Alike.{AreNew-alike}
use Rattle.tv_update_laws.proofs.Determined.{Meets, values-along, determined-along}
use Rattle.tv_update_laws.proofs.Middles.{AreAlike, middles-alike}

-- functions that make the same list of two ranges agree on these
ranges-agree : (f g : ℕ → ℕ) (k n : ℕ) → map f (range_with_len 0 k) ≡ map g (range_with_len 0 n)
    → (k ≡ n) × ((u : ℕ) → u < k → g u ≡ f u)
ranges-agree f g k n same = (sizes, values)
  where
    sizes : k ≡ n
    sizes =
        sym (length-map-range_with_len f 0 k) ∙ ap length same ∙ length-map-range_with_len g 0 n

    values : (u : ℕ) → u < k → g u ≡ f u
    values u lt =
        sym (get_or-map-range_with_len g 0 n u u 0 (omega (arith, lt, sizes)) (omega arith))
        ∙ ap (λ us. get_or us u 0) (sym same) ∙ get_or-map-range_with_len f 0 k u u 0 lt (omega arith)

one-new : (p : ProgramForm) → IsValid p
    → (mode : Mode) (action : ActionForm) (picks : Assignment) (middle : LogicalStructure)
    (us : List ℕ) (t u : StructureForm) → IsNew p mode action picks middle (stays_in us) (structure_of t)
    → IsNew p mode action picks middle (stays_in us) (structure_of u) → SaysSame t u
one-new p valid mode action picks middle us t u a b = record {
  size = agree.0;
  values = λ q tuple within.
      values-along p valid mode action picks middle (stays_in us) (structure_of t) (structure_of u) a b
      (λ x. x) meets q tuple
      (All-individuals t.size tuple within)
      ∙ ap (value_at u q) (map-id tuple);
  summaries = λ x lt.
      (determined-along p valid mode action picks middle (stays_in us) (structure_of t) (structure_of u) a b
      (λ x. x) meets FZero).summaries
      x (Contains-range t.size x lt);
  fresh = a.no_mark ∙ sym b.no_mark;
}
  where
    agree : (t.size ≡ u.size) × ((x : ℕ) → x < t.size → b.origin x ≡ a.origin x)
    agree = ranges-agree a.origin b.origin t.size u.size (a.origins ∙ sym b.origins)

    meets : Meets p valid mode action picks middle (stays_in us) (structure_of t) (structure_of u) a b
        (λ x. x)
    meets x at = (
      subst (λ n. Contains (range_with_len 0 n) x) agree.0 at,
      agree.1 x (below-range t.size x at),
    )

all-new : (p : ProgramForm) → IsValid p
    → (mode : Mode) (action : ActionForm) (picks : Assignment) (middle : LogicalStructure)
    (uss : List (List ℕ)) (ts us : List StructureForm)
    → AllZip (λ us t. IsNew p mode action picks middle (stays_in us) t) uss (map structure_of ts)
    → AllZip (λ us t. IsNew p mode action picks middle (stays_in us) t) uss (map structure_of us)
    → AllZip SaysSame ts us
all-new p valid mode action picks middle [] [] [] a b = tt
all-new p valid mode action picks middle [] [] (u ∷ us) a b = absurd b
all-new p valid mode action picks middle [] (t ∷ ts) us a b = absurd a
all-new p valid mode action picks middle (ws ∷ uss) [] us a b = absurd a
all-new p valid mode action picks middle (ws ∷ uss) (t ∷ ts) [] a b = absurd b
all-new p valid mode action picks middle (ws ∷ uss) (t ∷ ts) (u ∷ us) a b = (
  one-new p valid mode action picks middle ws t u a.0 b.0,
  all-new p valid mode action picks middle uss ts
      us a.1 b.1,
)

pub given_tables_are_one : GivenTablesAreOne
given_tables_are_one p valid mode action at s picks inside ts us (m, is_m, a) (n, is_n, b) =
    all-new p valid mode action picks n (choices_of (keep_value n picks action.retain) n.individuals) ts us
    (AreNew-alike p mode action is both.map_between m n picks picks both.alike (map structure_of ts) a) b
  where
    is : IsAction p action
    is = All-contains (IsAction p) p.actions action valid.actions at

    both : AreAlike action m n picks
    both = middles-alike p action is s picks
        (λ v there. All-contains
        (λ (x : ℕ). Contains s.individuals (picks x)) action.picks v inside there) m n is_m is_n
