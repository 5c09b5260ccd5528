-- Nodes whose structures weren't read yet, and the nodes that they stand for.
use Rattle.std.proofs.Common.{◌≡◌, ℕ, zero, suc, ◌≤◌, List, [], ◌∷◌, length, Some, refl, sym, ap, ◌∙◌, subst}
use Rattle.std.proofs.Common.{arith}
use Rattle.std.specs.Prelude.{Bool, codes}
use Rattle.std.proofs.lemmas.Option.{same_Some}
use Rattle.tv_lex.specs.Token.{SpecToken}
use Rattle.tv_phrases.specs.Reading.{taken, ◌>>=◌}
use Rattle.tv_phrases.specs.Tokens.{after, first, word_item, number_item}
use Rattle.tv_phrases.specs.Repeated.{Repeated}
use Rattle.tv_phrases.proofs.Values.{bind_some}
use Rattle.tv_phrases.proofs.Takes.{after_takes, first_takes}
use Rattle.tv_phrases.proofs.Repeats.{IsRead, held}
use Rattle.tv_tvs.specs.Grammar.{IsStruct}
use Rattle.tv_tvs.specs.Reading.{struct_at, struct_end}
use Rattle.tv_tvs.specs.Tree.{StructTree}
use Rattle.tv_tvs.proofs.Sound.{struct_sound}
use Rattle.tv_tvs.proofs.Complete.{struct_complete, struct_shorter}
use Rattle.tv_report.specs.Tree.{NodeTree}
use Rattle.tv_report.specs.Grammar.{AreStructures, IsNode}
use Rattle.tv_report.specs.Reading.{NodeMark, structures_end, node_at}
use Rattle.std.specs.List.{AllZip}
use Rattle.tv_phrases.proofs.Marks.{trees_for, marks_for}

-- ---- structures that are passed over

pub record SomeStructures (n : ℕ) (ts rest : List SpecToken) : Type 0 where
  pub trees : List StructTree
  pub count : length trees ≡ n
  pub are : AreStructures ts trees rest

pub ends_sound : (n : ℕ) (ts rest : List SpecToken) → structures_end n ts ≡ Some rest → SomeStructures n ts rest
unfolding structures_end struct_end
ends_sound zero ts rest e = record { trees = []; count = refl; are = sym (same_Some ts rest e) }
ends_sound (suc n) ts rest e =
    let a = bind_some (struct_at ts >>= λ x. Some x.1) _ rest e
    in let b = bind_some (struct_at ts) _ a.0 a.1
    in let one : IsStruct ts b.0.0 b.0.1 = struct_sound ts b.0 b.1
    in let others = ends_sound n a.0 rest a.2
    in record {
      trees = b.0.0 ∷ others.trees;
      count = ap suc others.count;
      are = (b.0.1, one, subst (λ us. AreStructures us others.trees rest) (sym (same_Some b.0.1 a.0 b.2)) others.are);
    }

pub ends_read : (trees : List StructTree) (ts rest : List SpecToken) → AreStructures ts trees rest
    → (structures_end (length trees) ts ≡ Some rest) × (length rest ≤ length ts)
unfolding structures_end struct_end
ends_read [] ts rest are = (ap Some (sym are), rw are (omega arith))
ends_read (t ∷ trees) ts rest are =
    let others = ends_read trees are.0 rest are.2
    in let shorter = struct_shorter ts t are.0 are.1
    in let le = others.1
    in (rw (struct_complete ts t are.0 are.1) others.0, omega (arith, shorter, le))

-- ---- nodes

-- the tokens begin with a node that is marked so
pub record IsMarkedNode (ts : List SpecToken) (m : NodeMark) (rest : List SpecToken) : Type 0 where
  pub inside : List SpecToken
  pub named : List SpecToken
  pub counted : List SpecToken
  pub begins : after (codes "node") ts ≡ Some inside
  pub name : first word_item inside ≡ taken m.name named
  pub word : after (codes "structures") named ≡ Some counted
  pub count : first number_item counted ≡ taken m.count m.structures
  pub some : SomeStructures m.count m.structures rest

pub node_sound : (ts rest : List SpecToken) (m : NodeMark) → node_at ts ≡ taken m rest → IsMarkedNode ts m rest
unfolding node_at
node_sound ts rest m e =
    let a = bind_some (after (codes "node") ts) _ (m, rest) e
    in let b = bind_some (first word_item a.0) _ (m, rest) a.2
    in let c = bind_some (after (codes "structures") b.0.1) _ (m, rest) b.2
    in let d = bind_some (first number_item c.0) _ (m, rest) c.2
    in let f = bind_some (structures_end d.0.0 d.0.1) _ (m, rest) d.2
    in held (λ (n : NodeMark) us. IsMarkedNode ts n us) (record { name = b.0.0; count = d.0.0; structures = d.0.1 }) m f.0 rest f.2
    (record {
      inside = a.0;
      named = b.0.1;
      counted = c.0;
      begins = a.1;
      name = b.1;
      word = c.1;
      count = d.1;
      some = ends_sound d.0.0 d.0.1 f.0 f.1;
    })

pub node_read : IsRead node_at IsMarkedNode
unfolding node_at
node_read ts rest m is =
    let end = ends_read is.some.trees m.structures rest is.some.are
    in let whole : structures_end m.count m.structures ≡ Some rest = ap (λ n. structures_end n m.structures) (sym is.some.count) ∙ end.0
    in let la = after_takes (codes "node") ts is.inside is.begins
    in let lb = first_takes word_item is.inside is.named m.name is.name
    in let lc = after_takes (codes "structures") is.named is.counted is.word
    in let ld = first_takes number_item is.counted m.structures m.count is.count
    in let le = end.1
    in (rw (is.begins, is.name, is.word, is.count, whole) refl, omega (arith, la, lb, lc, ld, le))

-- ---- what a mark stands for

pub record IsMarked (m : NodeMark) (t : NodeTree) : Type 0 where
  pub name : m.name ≡ t.name
  pub count : m.count ≡ length t.structures
  pub behind : List SpecToken
  pub are : AreStructures m.structures t.structures behind

abbrev pub AreMarked : List NodeMark → List NodeTree → Type 0
AreMarked = AllZip IsMarked

abbrev node_with : List ℕ → List StructTree → NodeTree
node_with name structures = record { name = name; structures = structures }

abbrev mark_with : List ℕ → ℕ → List SpecToken → NodeMark
mark_with name count structures = record { name = name; count = count; structures = structures }

pub tree_of_mark : (ts rest : List SpecToken) (m : NodeMark) → IsMarkedNode ts m rest → (t : NodeTree) × IsNode ts t rest × IsMarked m t
tree_of_mark ts rest m is =
    let counted : first number_item is.counted ≡ taken (length is.some.trees) m.structures
    = subst (λ n. first number_item is.counted ≡ taken n m.structures) (sym is.some.count) is.count
    in (
      node_with m.name is.some.trees,
      (is.inside, is.named, is.counted, m.structures, is.begins, is.name, is.word, counted, is.some.are),
      record { name = refl; count = sym is.some.count; behind = rest; are = is.some.are },
    )

pub mark_of_tree : (ts rest : List SpecToken) (t : NodeTree) → IsNode ts t rest → (m : NodeMark) × IsMarkedNode ts m rest × IsMarked m t
mark_of_tree ts rest t is = (
  mark_with t.name (length t.structures) is.3,
  record {
    inside = is.0;
    named = is.1;
    counted = is.2;
    begins = is.4;
    name = is.5;
    word = is.6;
    count = is.7;
    some = record { trees = t.structures; count = refl; are = is.8 };
  },
  record { name = refl; count = refl; behind = rest; are = is.8 },
)

-- ---- lists of them

pub trees_of_marks : (begins : List SpecToken → Bool) (ts rest : List SpecToken) (marks : List NodeMark)
    → Repeated begins IsMarkedNode ts marks rest
    → (trees : List NodeTree) × Repeated begins IsNode ts trees rest × AreMarked marks trees
trees_of_marks begins = trees_for begins IsMarkedNode IsNode IsMarked tree_of_mark

pub marks_of_trees : (begins : List SpecToken → Bool) (ts rest : List SpecToken) (trees : List NodeTree)
    → Repeated begins IsNode ts trees rest
    → (marks : List NodeMark) × Repeated begins IsMarkedNode ts marks rest × AreMarked marks trees
marks_of_trees begins = marks_for begins IsMarkedNode IsNode IsMarked mark_of_tree
