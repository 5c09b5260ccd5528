use Rattle.std.proofs.Common.{◌≡◌, ◌+◌, sym, ap, subst, ◌∙◌, arith}
use Rattle.std.specs.Prelude.{Some, find, slice_get, slice_range}
use Rattle.std.proofs.lemmas.Option.{get_or_from_slice_get, slice_get_within}
use Rattle.tv_lex.specs.Parts.{line_feeds, part_name}
use Rattle.tv_lex.specs.declared.gatherer.Gathered.{Gathered}
use Rattle.tv_lex.specs.declared.gatherer.Part.{Part}
use Rattle.tv_file_lines.specs.FileLines.{StandsInFile, is_in}
use Rattle.tv_file_lines.proofs.Finding.{found_at, holds_place, missed_at}
use Rattle.tv_file_lines.proofs.lines.FileLines.line_at.Goals as goal

pub returns-in_default-clause-none : goal.returns-in_default-clause-none
returns-in_default-clause-none c = λ traced made high.
    let parts = c.deref.ensures.value ∙ ap (λ (g : Gathered). g.parts.items) c.self.view_is in
    missed_at traced c.args.self.now c.args.place made
    (ap (find (is_in c.args.place)) (sym parts) ∙ c.in_default.ensures.none) high

pub index-part-requires : goal.index-part-requires
index-part-requires c =
    let at = c.in-Some.ensures.found in
    let within = slice_get_within c.deref.result.now c.in-Some.number at.0 at.1 in
    omega (arith, within, c.deref.ensures.len)

pub on-self-inside-requires-clause-order : goal.on-self-inside-requires-clause-order
on-self-inside-requires-clause-order c =
    let at = c.in-Some.ensures.found in
    let parts = c.self.inside.gathered.now.parts.items in
    let there : slice_get parts c.in-Some.number ≡ Some at.0 =
    ap (λ ps. slice_get ps c.in-Some.number) (sym c.deref.ensures.value) ∙ at.1 in
    let same : c.index-part.result.now ≡ at.0 =
    c.index-part.ensures ∙ get_or_from_slice_get parts c.in-Some.number at.0 c.index-part.result.now there in
    let holds = holds_place c.args.place at.0 at.2 in
    omega (arith, holds.0, ap (λ (p : Part). p.start) same)

pub returns-clause-found : goal.returns-clause-found
returns-clause-found c = λ traced made.
    let at = c.in-Some.ensures.found in
    let number = c.in-Some.number in
    let text = c.args.self.now.bytes.items in
    let place = c.args.place in
    let part = c.index-part.result.now in
    let count = c.on-self-inside.result in
    let inside = c.self.inside.gathered.now.parts.items in
    let same : part ≡ at.0 =
    c.index-part.ensures
    ∙ get_or_from_slice_get inside number at.0 part (ap (λ ps. slice_get ps number) (sym c.deref.ensures.value) ∙ at.1) in
    let parts = c.deref.ensures.value ∙ ap (λ (g : Gathered). g.parts.items) c.self.view_is in
    let there : slice_get c.args.self.now.parts.items number ≡ Some at.0 = ap (λ ps. slice_get ps number) (sym parts) ∙ at.1 in
    let stands = subst (λ (p : Part). StandsInFile traced place (part_name p) (p.line + line_feeds (slice_range text p.start place))) (sym same)
    (found_at traced c.args.self.now place number at.0 made there at.2) in
    let bytes = c.deref-2.ensures.value ∙ ap (λ (g : Gathered). g.bytes.items) c.self.view_is in
    let feeds : count.feeds ≡ line_feeds (slice_range text part.start place) =
    c.on-self-inside.ensures.counts.feeds
    ∙ ap (λ t. line_feeds (slice_range t count.start count.end)) bytes
    ∙ ap (λ n. line_feeds (slice_range text n count.end)) c.on-self-inside.ensures.start
    ∙ ap (λ n. line_feeds (slice_range text part.start n)) c.on-self-inside.ensures.end in
    subst (λ name. StandsInFile traced place name (part.line + count.feeds)) (sym c.as_str.ensures.value)
    (subst (λ n. StandsInFile traced place (part_name part) (part.line + n)) (sym feeds) stands)
