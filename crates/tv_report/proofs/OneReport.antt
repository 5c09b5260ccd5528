-- The tokens of a report are those of one report alone.
use Rattle.std.proofs.Common.{◌≡◌, List, [], ◌∷◌, length, refl, sym, ap, ◌∙◌, subst, arith}
use Rattle.std.proofs.lemmas.Option.{same_Some}
use Rattle.tv_lex.specs.Token.{SpecToken}
use Rattle.tv_tvs.specs.Tree.{StructTree}
use Rattle.tv_tvs.proofs.Complete.{one_struct}
use Rattle.tv_report.specs.Tree.{NodeTree, ReportTree}
use Rattle.tv_report.specs.Grammar.{AreStructures, IsReport}
use Rattle.tv_report.specs.Reading.{NodeMark, ReportMarks}
use Rattle.tv_report.proofs.Marks.{IsMarked, AreMarked}
use Rattle.tv_report.proofs.Reports.{IsMarkedReport, report_read}
use Rattle.tv_lemmas.proofs.Zips.{same_partners}

pub same_structures : (xs ys : List StructTree) (ts r s : List SpecToken) → AreStructures ts xs r → AreStructures ts ys s → length xs ≡ length ys → xs ≡ ys
same_structures [] [] ts r s a b e = refl
same_structures [] (y ∷ ys) ts r s a b e = absurd (omega (arith, e))
same_structures (x ∷ xs) [] ts r s a b e = absurd (omega (arith, e))
same_structures (x ∷ xs) (y ∷ ys) ts r s a b e =
    let one = one_struct ts x y a.0 b.0 a.1 b.1
    in let others = same_structures xs ys a.0 r s a.2 (subst (λ us. AreStructures us ys s) (sym one.1) b.2) (omega (arith, e))
    in ap (λ z. z ∷ xs) one.0 ∙ ap (λ zs. y ∷ zs) others

same_node : (m : NodeMark) (t u : NodeTree) → IsMarked m t → IsMarked m u → t ≡ u
same_node m t u a b =
    let structures = same_structures t.structures u.structures m.structures a.behind b.behind a.are b.are (sym a.count ∙ b.count)
    in let name : t.name ≡ u.name = sym a.name ∙ b.name
    in ap (λ n. record { name = n; structures = t.structures }) name ∙ ap (λ ss. record { name = u.name; structures = ss }) structures

same_nodes : (marks : List NodeMark) (ts us : List NodeTree) → AreMarked marks ts → AreMarked marks us → ts ≡ us
same_nodes = same_partners IsMarked same_node

same_report : (marks : ReportMarks) (t u : ReportTree) → IsMarkedReport marks t → IsMarkedReport marks u → t ≡ u
same_report marks t u a b =
    ap (λ ns. record { nodes = ns; messages = t.messages; maps = t.maps }) (same_nodes marks.nodes t.nodes u.nodes a.nodes b.nodes)
    ∙ ap (λ ms. record { nodes = u.nodes; messages = ms; maps = t.maps }) (sym a.messages ∙ b.messages)
    ∙ ap (λ ms. record { nodes = u.nodes; messages = u.messages; maps = ms }) (sym a.maps ∙ b.maps)

pub one_report : (tokens : List SpecToken) (t u : ReportTree) → IsReport tokens t → IsReport tokens u → t ≡ u
one_report tokens t u a b =
    let first = report_read tokens t a
    in let second = report_read tokens u b
    in let same = same_Some first.0 second.0 (sym first.1 ∙ second.1)
    in same_report first.0 t u first.2 (subst (λ m. IsMarkedReport m u) (sym same) second.2)
