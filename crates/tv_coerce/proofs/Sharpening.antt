-- One more change is made.
use Rattle.std.proofs.Common.{ℕ, ◌≡◌, ◌<◌, ◌+◌, ◌∙◌, List, slice_get, All, Contains, ⊎_elim, sym, ap, subst}
use Rattle.std.proofs.Common.{arith}
use Rattle.std.proofs.lemmas.Bool.{cases_eq}
use Rattle.std.proofs.lemmas.List.Elements.{All-contains}
use Rattle.tv_structure_form.specs.Halves.{half_count}
use Rattle.tv_structure_form.specs.StructureForm.{StructureForm, arities_of, structure_of}
use Rattle.tv_structure_form.specs.TableForm.{AreIndividuals}
use Rattle.tv_struct.specs.TupleForm.{tuple_of}
use Rattle.tv_coerce.specs.declared.change.Change.{Change}
use Rattle.tv_coerce.specs.declared.change.Change.TheVariants.{Value, Ordinary}
use Rattle.tv_coerce.specs.Changes.{Has, IsOpen, IsPlace, IsLowered}
use Rattle.tv_coerce.specs.Sharpened.{IsSharpened}
use Rattle.tv_coerce.specs.declared.noted.Ask.{Ask}
use Rattle.tv_coerce.proofs.OnTheWay.{below-below}

-- a change has its place in each structure of that size and those predicates
pub place-on : (s t : StructureForm) (c : Change) → t.size ≡ s.size → arities_of t ≡ arities_of s → IsPlace s c → IsPlace t c
place-on s t (Value p tuple k) size arities place = record {
  arity = ap (λ ns. slice_get ns p.0) arities ∙ place.arity;
  individuals = subst (λ n. AreIndividuals n (tuple_of tuple)) (sym size) place.individuals;
}
place-on s t (Ordinary x) size arities place = subst (λ n. x < n) (sym size) place

pub sharpened-more : (asks : List Ask) (i : ℕ) (ask : Ask) (old mid new : StructureForm) → IsSharpened asks i old mid
    → Contains asks ask → All (λ one. IsPlace old one.change) asks → IsLowered ask.change mid new → IsSharpened asks (i + 1) old new
sharpened-more asks i ask old mid new before at places low = record {
  kept = low.kept;
  size = low.size ∙ before.size;
  arities = low.arities ∙ before.arities;
  mark = low.mark ∙ before.mark;
  below = below-below (structure_of new) (structure_of mid) (structure_of old) low.below before.below;
  loses_none = λ u has below. low.loses_none u (All-contains (λ one. Has one.change u) asks ask has at) (before.loses_none u has below);
  keeps = λ other step is. step ask mid new at before.kept place low (before.keeps other step is);
  none = λ e. absurd (omega (arith, e));
  halves = omega (arith, low.halves, before.halves);
  fewer = λ some open'. ⊎_elim (first open') (later open') (cases_eq i 0);
}
  where
    place : IsPlace mid ask.change
    place = place-on old mid ask.change before.size before.arities (All-contains (λ one. IsPlace old one.change) asks ask places at)

    first : All (λ one. IsOpen old one.change) asks → i ≡ 0 → half_count new < half_count old
    first open' e =
        let same : mid ≡ old = before.none e
        in let fewer : half_count new < half_count mid
        = low.fewer (subst (λ s. IsOpen s ask.change) (sym same) (All-contains (λ one. IsOpen old one.change) asks ask open' at))
        in subst (λ s. half_count new < half_count s) same fewer

    later : All (λ one. IsOpen old one.change) asks → (i ≡ 0 → ⊥) → half_count new < half_count old
    later open' ne =
        let fewer : half_count mid < half_count old = before.fewer (omega (arith, ne)) open'
        in omega (arith, fewer, low.halves)
