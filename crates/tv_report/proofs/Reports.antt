-- Whole reports: what is read is what the grammar says, and what the grammar says is read.
use Rattle.std.proofs.Common.{◌≡◌, ℕ, ◌+◌, Bool, true, false, List, [], length, Some, None, refl, sym}
use Rattle.std.proofs.Common.{ap, ◌∙◌, subst, inl, inr, arith}
use Rattle.std.specs.Prelude.{codes, ◌==◌}
use Rattle.std.proofs.lemmas.Option.{same_Some, cond_some}
use Rattle.tv_lemmas.proofs.Lists.{none_left}
use Rattle.tv_lex.specs.Token.{SpecToken}
use Rattle.tv_phrases.specs.Reading.{taken, ◌>>=◌}
use Rattle.tv_phrases.specs.Tokens.{after}
use Rattle.tv_phrases.specs.Repeated.{Repeated, begins_with}
use Rattle.tv_phrases.proofs.Facts.{other_mark}
use Rattle.tv_phrases.proofs.Values.{bind_some, chosen, same_value, same_rest}
use Rattle.tv_phrases.proofs.Repeats.{held, many_sound, many_read}
use Rattle.tv_listing.specs.declared.analysis.MapLine.{MapLine}
use Rattle.tv_listing.specs.declared.analysis.MessageLine.{MessageLine}
use Rattle.tv_report.specs.Tree.{NodeTree, ReportTree}
use Rattle.tv_report.specs.Grammar.{IsNode, IsMessage, IsMap, IsHead, AreMaps, IsReport}
use Rattle.tv_report.specs.Reading.{NodeMark, ReportMarks, node_at, line_at, map_at, nodes_at, lines_at}
use Rattle.tv_report.specs.Reading.{version_at, head_at, maps_if, end_at, report_at}
use Rattle.tv_report.proofs.Marks.{IsMarkedNode, AreMarked, node_sound, node_read, trees_of_marks}
use Rattle.tv_report.proofs.Marks.{marks_of_trees}
use Rattle.tv_report.proofs.Phrases.{line_sound, line_read, map_sound, map_read}

-- ---- versions

abbrev version_of : Bool → List ℕ
version_of false = codes "1"
version_of true = codes "2"

version_sound : (ts rest : List SpecToken) (mapped : Bool) → version_at ts ≡ taken mapped rest → after (version_of mapped) ts ≡ Some rest
unfolding version_at
version_sound ts rest mapped e =
    elim (chosen (after (codes "1") ts) (after (codes "2") ts >>= λ us. Some (true, us)) (λ us. Some (false, us)) (taken mapped rest) e) [
      | inl h ↦
          let a = bind_some (after (codes "2") ts) _ (mapped, rest) h.1
          in held (λ (b : Bool) us. after (version_of b) ts ≡ Some us) true mapped a.0 rest a.2 a.1
      | inr h ↦ held (λ (b : Bool) us. after (version_of b) ts ≡ Some us) false mapped h.0 rest h.2 h.1
    ]

head_sound : (ts rest : List SpecToken) (mapped : Bool) → head_at ts ≡ taken mapped rest → IsHead (version_of mapped) ts rest
unfolding head_at
head_sound ts rest mapped e =
    let a = bind_some (after (codes "tvla") ts) _ (mapped, rest) e
    in let b = bind_some (after (codes "report") a.0) _ (mapped, rest) a.2
    in (a.0, b.0, a.1, b.1, version_sound b.0 rest mapped b.2)

first_read : (ts rest : List SpecToken) → IsHead (codes "1") ts rest → head_at ts ≡ taken false rest
unfolding head_at version_at
first_read ts rest is = rw (is.2, is.3, is.4) refl

second_read : (ts rest : List SpecToken) → IsHead (codes "2") ts rest → head_at ts ≡ taken true rest
unfolding head_at version_at
second_read ts rest is =
    let other : after (codes "1") is.1 ≡ None = other_mark (codes "2") (codes "1") is.1 rest refl is.4
    in rw (is.2, is.3, other, is.4) refl

maps_sound : (mapped : Bool) (ts rest : List SpecToken) (maps : List MapLine) → maps_if mapped ts ≡ taken maps rest → AreMaps (version_of mapped) ts maps rest
unfolding maps_if
maps_sound false ts rest maps e = inl (refl, sym (same_value [] maps ts rest e), sym (same_rest [] maps ts rest e))
maps_sound true ts rest maps e =
    inr (refl, many_sound (begins_with (codes "map")) map_at IsMap map_sound (length ts + 1) ts rest maps e)

-- ---- the end

end_sound : (ts us : List SpecToken) → end_at ts ≡ Some us → after (codes "end") ts ≡ Some []
unfolding end_at
end_sound ts us e =
    let a = bind_some (after (codes "end") ts) _ us e
    in let b = cond_some (length a.0 == 0) [] us a.2
    in a.1 ∙ ap Some (none_left a.0 b.0)

end_read : (ts : List SpecToken) → after (codes "end") ts ≡ Some [] → end_at ts ≡ Some []
unfolding end_at
end_read ts is = rw is refl

-- ---- reports

pub record IsMarkedReport (marks : ReportMarks) (t : ReportTree) : Type 0 where
  pub nodes : AreMarked marks.nodes t.nodes
  pub messages : marks.messages ≡ t.messages
  pub maps : marks.maps ≡ t.maps

abbrev report_with : List NodeTree → List MessageLine → List MapLine → ReportTree
report_with nodes messages maps = record { nodes = nodes; messages = messages; maps = maps }

abbrev marks_with : List NodeMark → List MessageLine → List MapLine → ReportMarks
marks_with nodes messages maps = record { nodes = nodes; messages = messages; maps = maps }

pub report_sound : (ts : List SpecToken) (marks : ReportMarks) → report_at ts ≡ Some marks → (t : ReportTree) × IsReport ts t × IsMarkedReport marks t
unfolding report_at
report_sound ts marks e =
    let a = bind_some (head_at ts) _ marks e
    in let b = bind_some (nodes_at a.0.1) _ marks a.2
    in let c = bind_some (lines_at b.0.1) _ marks b.2
    in let d = bind_some (maps_if a.0.0 c.0.1) _ marks c.2
    in let f = bind_some (end_at d.0.1) _ marks d.2
    in let marked : Repeated (begins_with (codes "node")) IsMarkedNode a.0.1 b.0.0 b.0.1
    = many_sound (begins_with (codes "node")) node_at IsMarkedNode node_sound (length a.0.1 + 1) a.0.1 b.0.1 b.0.0 b.1
    in let nodes = trees_of_marks (begins_with (codes "node")) a.0.1 b.0.1 b.0.0 marked
    in let messages : Repeated (begins_with (codes "message")) IsMessage b.0.1 c.0.0 c.0.1
    = many_sound (begins_with (codes "message")) line_at IsMessage line_sound (length b.0.1 + 1) b.0.1 c.0.1 c.0.0 c.1
    in let maps = maps_sound a.0.0 c.0.1 d.0.1 d.0.0 d.1
    in subst (λ (m : ReportMarks). (t : ReportTree) × IsReport ts t × IsMarkedReport m t) (same_Some (marks_with b.0.0 c.0.0 d.0.0) marks f.2) (
      report_with nodes.0 c.0.0 d.0.0,
      (version_of a.0.0, a.0.1, b.0.1, c.0.1, d.0.1, head_sound ts a.0.1 a.0.0 a.1, nodes.1, messages, maps, end_sound d.0.1 f.0 f.1),
      record { nodes = nodes.2; messages = refl; maps = refl },
    )

-- the parts of a report behind its head
record IsBody (t : ReportTree) (marks : List NodeMark) (ts us rest : List SpecToken) : Type 0 where
  nodes : nodes_at ts ≡ taken marks us
  messages : lines_at us ≡ taken t.messages rest
  are : AreMarked marks t.nodes

body_read : (t : ReportTree) (ts us rest : List SpecToken) → Repeated (begins_with (codes "node")) IsNode ts t.nodes us
    → Repeated (begins_with (codes "message")) IsMessage us t.messages rest → (marks : List NodeMark) × IsBody t marks ts us rest
body_read t ts us rest nodes messages =
    let marks = marks_of_trees (begins_with (codes "node")) ts us t.nodes nodes
    in (
      marks.0,
      record {
        nodes = (many_read (begins_with (codes "node")) node_at IsMarkedNode node_read marks.0 ts us marks.1 (length ts + 1) (omega arith)).0;
        messages = (many_read (begins_with (codes "message")) line_at IsMessage line_read t.messages us rest messages (length us + 1) (omega arith)).0;
        are = marks.2;
      },
    )

whole_read : (tokens us vs ws xs : List SpecToken) (t : ReportTree) (marks : List NodeMark) (mapped : Bool) → head_at tokens ≡ taken mapped us
    → IsBody t marks us vs ws → maps_if mapped ws ≡ taken t.maps xs → after (codes "end") xs ≡ Some []
    → report_at tokens ≡ Some (marks_with marks t.messages t.maps)
unfolding report_at
whole_read tokens us vs ws xs t marks mapped head body maps end = rw (head, body.nodes, body.messages, maps, end_read xs end) refl

first_maps : (ts rest : List SpecToken) (maps : List MapLine) → maps ≡ [] → rest ≡ ts → maps_if false ts ≡ taken maps rest
unfolding maps_if
first_maps ts rest maps none same = ap (λ ms. taken ms ts) (sym none) ∙ ap (λ us. taken maps us) (sym same)

second_maps : (ts rest : List SpecToken) (maps : List MapLine) → Repeated (begins_with (codes "map")) IsMap ts maps rest → maps_if true ts ≡ taken maps rest
unfolding maps_if
second_maps ts rest maps are = (many_read (begins_with (codes "map")) map_at IsMap map_read maps ts rest are (length ts + 1) (omega arith)).0

pub report_read : (ts : List SpecToken) (t : ReportTree) → IsReport ts t → (marks : ReportMarks) × (report_at ts ≡ Some marks) × IsMarkedReport marks t
report_read ts t is =
    let body = body_read t is.1 is.2 is.3 is.6 is.7
    in let marked : IsMarkedReport (marks_with body.0 t.messages t.maps) t = record { nodes = body.1.are; messages = refl; maps = refl }
    in elim is.8 [
      | inl h ↦
          let head : IsHead (codes "1") ts is.1 = subst (λ v. IsHead v ts is.1) h.0 is.5
          in (
            marks_with body.0 t.messages t.maps,
            whole_read ts is.1 is.2 is.3 is.4 t body.0 false (first_read ts is.1 head) body.1 (first_maps is.3 is.4 t.maps h.1 h.2) is.9,
            marked,
          )
      | inr h ↦
          let head : IsHead (codes "2") ts is.1 = subst (λ v. IsHead v ts is.1) h.0 is.5
          in (
            marks_with body.0 t.messages t.maps,
            whole_read ts is.1 is.2 is.3 is.4 t body.0 true (second_read ts is.1 head) body.1 (second_maps is.3 is.4 t.maps h.1) is.9,
            marked,
          )
    ]
