-- Which members aren't Yes.
use Rattle.std.proofs.Common.{ℕ, ◌≡◌, ◌≢◌, ◌<◌, ◌≤◌, ◌+◌, ⊎_elim, List, length, Some, slice_get, sym, ap}
use Rattle.std.proofs.Common.{subst}
use Rattle.std.proofs.Common.{◌∙◌, arith}
use Rattle.std.proofs.lemmas.Bool.{cases_eq}
use Rattle.std.proofs.lemmas.Option.{same_Some, slice_get_within}
use Rattle.tv_kleene.specs.declared.K3.{K3}
use Rattle.tv_kleene.specs.declared.K3.TheVariants.{No, Half, Yes}
use Rattle.tv_model.specs.Truth.{Assignment}
use Rattle.tv_coerce_members.specs.Members.{MemberForm}
use Rattle.tv_eval_laws.specs.Value.{value}
use Rattle.tv_structure_form.specs.StructureForm.{StructureForm, structure_of}
use Rattle.tv_coerce.specs.Counting.{IsSome, Lacks, LacksTwo}
use Rattle.tv_coerce.specs.Lacking.{IsLacking, lacking_more, lacking_too}
use Rattle.tv_coerce.specs.declared.counting.Missing.{Missing}
use Rattle.tv_coerce.specs.declared.counting.Missing.TheVariants.{Nothing, Member, Several}

-- of the first members all are Yes but that one
pub record IsOnlyBy (s : StructureForm) (a : Assignment) (ms : List MemberForm) (count k : ℕ) : Type 0 where
  pub member : MemberForm
  pub there : slice_get ms k ≡ Some member
  pub lacks : value (structure_of s) a member.form ≢ Yes
  pub others : (j : ℕ) (m : MemberForm) → j < count → slice_get ms j ≡ Some m → j ≢ k → value (structure_of s) a m.form ≡ Yes

abbrev pub AreYes : StructureForm → Assignment → List MemberForm → ℕ → Type 0
AreYes s a ms count = (j : ℕ) (m : MemberForm) → j < count → slice_get ms j ≡ Some m → value (structure_of s) a m.form ≡ Yes

abbrev pub IsLackingBy : StructureForm → Assignment → List MemberForm → (count : ℕ) → Missing → Type 0
IsLackingBy s a ms count Nothing = AreYes s a ms count
IsLackingBy s a ms count (Member k) = (k < count) × IsOnlyBy s a ms count k
IsLackingBy s a ms count Several = LacksTwo IsSome s a ms

module _ (s : StructureForm) (a : Assignment) (ms : List MemberForm) (count : ℕ) (m : MemberForm) (there : slice_get ms count ≡ Some m) where
  one-lacks : value (structure_of s) a m.form ≢ Yes → Lacks IsSome s a ms
  one-lacks lacks = record { number = count; member = m; there = there; those = tt; lacks = lacks }

  -- one that is Yes
  yes-too : value (structure_of s) a m.form ≡ Yes → (j : ℕ) (n : MemberForm) → slice_get ms j ≡ Some n → j ≡ count
      → value (structure_of s) a n.form ≡ Yes
  yes-too is j n found same =
      subst (λ x. value (structure_of s) a x.form ≡ Yes) (same_Some m n (sym there ∙ ap (slice_get ms) (sym same) ∙ found)) is

  pub yes-more : (found : Missing) → value (structure_of s) a m.form ≡ Yes → IsLackingBy s a ms count found
      → IsLackingBy s a ms (count + 1) found
  yes-more Nothing is so_far = λ j n below at.
      ⊎_elim (yes-too is j n at) (λ ne. so_far j n (omega (arith, below, ne)) at) (cases_eq j count)
  yes-more (Member k) is so_far = (
    omega (arith, so_far.0),
    record {
      member = so_far.1.member;
      there = so_far.1.there;
      lacks = so_far.1.lacks;
      others = λ j n below at other. ⊎_elim (yes-too is j n at) (λ ne. so_far.1.others j n (omega (arith, below, ne)) at other) (cases_eq j count);
    },
  )
  yes-more Several is so_far = so_far

  pub lacks-first : value (structure_of s) a m.form ≢ Yes → AreYes s a ms count → IsLackingBy s a ms (count + 1) (Member count)
  lacks-first lacks so_far = (
    omega arith,
    record {
      member = m;
      there = there;
      lacks = lacks;
      others = λ j n below at other. so_far j n (omega (arith, below, other)) at;
    },
  )

  pub lacks-second : (k : ℕ) → value (structure_of s) a m.form ≢ Yes → (k < count) × IsOnlyBy s a ms count k → LacksTwo IsSome s a ms
  lacks-second k lacks so_far = record {
    one = record { number = k; member = so_far.1.member; there = so_far.1.there; those = tt; lacks = so_far.1.lacks };
    other = record { number = count; member = m; there = there; those = tt; lacks = lacks };
    apart = λ e. absurd (omega (arith, e, so_far.0));
  }

  lacks-more : (found : Missing) → value (structure_of s) a m.form ≢ Yes → IsLackingBy s a ms count found
      → IsLackingBy s a ms (count + 1) (lacking_more found count)
  lacks-more Nothing lacks so_far = lacks-first lacks so_far
  lacks-more (Member k) lacks so_far = lacks-second k lacks so_far
  lacks-more Several lacks so_far = so_far

  pub lacking-next : (found : Missing) (k : K3) → value (structure_of s) a m.form ≡ k → IsLackingBy s a ms count found
      → IsLackingBy s a ms (count + 1) (lacking_too found count k)
  lacking-next found No e so_far = lacks-more found (λ f. let clash : No ≡ Yes = sym e ∙ f in absurd (cc)) so_far
  lacking-next found Half e so_far = lacks-more found (λ f. let clash : Half ≡ Yes = sym e ∙ f in absurd (cc)) so_far
  lacking-next found Yes e so_far = yes-more found e so_far

pub lacking-whole : (s : StructureForm) (a : Assignment) (ms : List MemberForm) (count : ℕ) (found : Missing) → length ms ≤ count
    → IsLackingBy s a ms count found → IsLacking s a ms found
lacking-whole s a ms count Nothing whole so_far = λ k m at. so_far k m (omega (arith, whole, slice_get_within ms k m at)) at
lacking-whole s a ms count (Member k) whole so_far = record {
  member = so_far.1.member;
  there = so_far.1.there;
  lacks = so_far.1.lacks;
  others = λ j m at other. so_far.1.others j m (omega (arith, whole, slice_get_within ms j m at)) at other;
}
lacking-whole s a ms count Several whole so_far = so_far
