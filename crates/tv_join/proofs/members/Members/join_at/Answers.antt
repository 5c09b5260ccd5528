use Rattle.std.proofs.Common.{ℕ, ◌≡◌, ◌∙◌, List, MatchBool, length, get_or, set, Some, ap, sym, subst, arith}
use Rattle.std.specs.Prelude.{slice_get}
use Rattle.std.proofs.lemmas.Option.{slice_get_within, get_or_from_slice_get}
use Rattle.tv_structure_form.specs.StructureForm.{StructureForm, arities_of, unmarked}
use Rattle.tv_join.specs.Keyed.{SameKey}
use Rattle.tv_join.specs.Members.{MembersForm, place_in}
use Rattle.tv_join.proofs.Indexing.{put-known, put-raised, put-indexed}
use Rattle.tv_join.proofs.members.Members.join_at.Goals as goal

-- what indexing reads there
read-at : (xs ys : List StructureForm) (place : ℕ) (read t : StructureForm) → read ≡ get_or xs place read → xs ≡ ys
    → slice_get ys place ≡ Some t → read ≡ t
read-at xs ys place read t is e at = is ∙ ap (λ zs. get_or zs place read) e ∙ get_or_from_slice_get ys place t read at

pub index-requires : goal.index-requires
index-requires c =
    omega (
      arith,
      slice_get_within c.args.self.now.structures c.args.place c.requires.key.0 c.requires.key.1,
      ap (λ (m : MembersForm). length m.structures) c.self.view_is,
    )

pub index-requires-2 : goal.index-requires-2
index-requires-2 c =
    omega (
      arith,
      slice_get_within c.args.self.now.structures c.args.place c.requires.key.0 c.requires.key.1,
      ap (λ (m : MembersForm). length m.structures) c.self.view_is,
    )

pub index_mut-requires : goal.index_mut-requires
index_mut-requires c =
    omega (
      arith,
      slice_get_within c.args.self.now.structures c.args.place c.requires.key.0 c.requires.key.1,
      ap (λ (m : MembersForm). length m.structures) c.self.view_is,
    )

pub join_into-requires-clause-flags : goal.join_into-requires-clause-flags
join_into-requires-clause-flags c =
    let same : c.self.inside.structures.items ≡ c.args.self.now.structures = ap (λ (m : MembersForm). m.structures) c.self.view_is
    in let t = c.requires.key.0
    in let read : c.index.result.now ≡ t
    = read-at c.self.inside.structures.items c.args.self.now.structures c.args.place c.index.result.now t c.index.ensures same
    c.requires.key.1
    in subst (λ r. length c.args.counted.now ≡ length (arities_of r)) (sym read)
    (c.requires.can.0.count ∙ ap length c.requires.key.2.over)

pub join_into-requires-clause-like : goal.join_into-requires-clause-like
join_into-requires-clause-like c =
    let same : c.self.inside.structures.items ≡ c.args.self.now.structures = ap (λ (m : MembersForm). m.structures) c.self.view_is
    in let t = c.requires.key.0
    in let read : c.index.result.now ≡ t
    = read-at c.self.inside.structures.items c.args.self.now.structures c.args.place c.index.result.now t c.index.ensures same
    c.requires.key.1
    in let key = subst (SameKey c.args.counted.now c.args.s) (sym read) c.requires.key.2
    in (key.size, key.over)

pub join_into-requires-clause-same : goal.join_into-requires-clause-same
join_into-requires-clause-same c =
    let same : c.self.inside.structures.items ≡ c.args.self.now.structures = ap (λ (m : MembersForm). m.structures) c.self.view_is
    in let t = c.requires.key.0
    in let read : c.index.result.now ≡ t
    = read-at c.self.inside.structures.items c.args.self.now.structures c.args.place c.index.result.now t c.index.ensures same
    c.requires.key.1
    in (subst (SameKey c.args.counted.now c.args.s) (sym read) c.requires.key.2).values

pub returns-then-is_same-clause-puts : goal.returns-then-is_same-clause-puts
returns-then-is_same-clause-puts c =
    let same : c.self.inside.structures.items ≡ c.args.self.now.structures = ap (λ (m : MembersForm). m.structures) c.self.view_is
    in let t = c.requires.key.0
    in let at = c.requires.key.1
    in let joined = c.join_into.new.s
    in let other = c.index-2.result.now
    in put-known c.args.counted.now c.args.self.now c.requires.can.2 c.args.s t c.index.result.now joined other c.args.place at
    c.requires.key.2
    (read-at c.self.inside.structures.items c.args.self.now.structures c.args.place c.index.result.now t c.index.ensures same at)
    (read-at c.self.inside.structures.items c.args.self.now.structures c.args.place other t c.index-2.ensures same at)
    c.join_into.ensures
    (subst (λ b. MatchBool b (unmarked joined ≡ unmarked other) (¬ (unmarked joined ≡ unmarked other))) c.if-is_same.true
    c.is_same.ensures)

pub returns-clause-puts : goal.returns-clause-puts
returns-clause-puts c =
    let same : c.self.inside.structures.items ≡ c.args.self.now.structures = ap (λ (m : MembersForm). m.structures) c.self.view_is
    in let t = c.requires.key.0
    in let at = c.requires.key.1
    in let joined = c.join_into.new.s
    in let other = c.index-2.result.now
    in put-raised c.args.counted.now c.args.self.now c.requires.can.2 c.args.s t c.index.result.now joined other c.args.place at
    c.requires.key.2
    (read-at c.self.inside.structures.items c.args.self.now.structures c.args.place c.index.result.now t c.index.ensures same at)
    (read-at c.self.inside.structures.items c.args.self.now.structures c.args.place other t c.index-2.ensures same at)
    c.join_into.ensures
    (subst (λ b. MatchBool b (unmarked joined ≡ unmarked other) (¬ (unmarked joined ≡ unmarked other))) c.if-is_same.false
    c.is_same.ensures)
    (set c.self.inside.structures.items c.args.place joined) (ap (λ xs. set xs c.args.place joined) same)

pub returns-clause-indexed : goal.returns-clause-indexed
returns-clause-indexed c =
    let same : c.self.inside.structures.items ≡ c.args.self.now.structures = ap (λ (m : MembersForm). m.structures) c.self.view_is
    in let t = c.requires.key.0
    in let at = c.requires.key.1
    in let joined = c.join_into.new.s
    in let other = c.index-2.result.now
    in put-indexed c.args.counted.now c.args.self.now c.requires.can.2 c.args.s t c.index.result.now joined other c.args.place at
    c.requires.key.2
    (read-at c.self.inside.structures.items c.args.self.now.structures c.args.place c.index.result.now t c.index.ensures same at)
    (read-at c.self.inside.structures.items c.args.self.now.structures c.args.place other t c.index-2.ensures same at)
    c.join_into.ensures
    (record { structures = set c.self.inside.structures.items c.args.place joined; places = c.self.inside.places.entries })
    (ap (λ xs. set xs c.args.place joined) same) (λ q. ap (λ (m : MembersForm). place_in m.places q) c.self.view_is)
