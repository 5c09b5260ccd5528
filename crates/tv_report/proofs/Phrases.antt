-- Messages and maps: what is read is what the grammar says, and what the grammar says is read.
use Rattle.std.proofs.Common.{◌≡◌, ℕ, List, None, refl, inl, inr, arith}
use Rattle.std.specs.Prelude.{codes}
use Rattle.tv_kleene.specs.declared.K3.{K3}
use Rattle.tv_lex.specs.Token.{SpecToken}
use Rattle.tv_phrases.specs.Reading.{taken}
use Rattle.tv_phrases.specs.Tokens.{after, first, text_item, number_item}
use Rattle.tv_phrases.specs.Lists.{optional_list}
use Rattle.tv_phrases.proofs.Facts.{other_mark}
use Rattle.tv_phrases.proofs.Values.{bind_some, chosen}
use Rattle.tv_phrases.proofs.Takes.{after_takes, first_takes, optional_takes}
use Rattle.tv_phrases.proofs.Repeats.{IsRead, held}
use Rattle.tv_listing.specs.declared.analysis.Item.{Item}
use Rattle.tv_listing.specs.declared.analysis.Item.TheVariants as item
use Rattle.tv_listing.specs.declared.analysis.MapLine.{MapLine}
use Rattle.tv_listing.specs.declared.analysis.MessageLine.{MessageLine}
use Rattle.tv_report.specs.Grammar.{message_value, IsMessage, IsItemPhrase, IsMap}
use Rattle.tv_report.specs.Reading.{line_at, initial_at, result_at, item_at, braces_at, map_at}

-- ---- messages

abbrev line_with : (edge number : ℕ) → K3 → MessageLine
line_with edge number value = record { edge = edge; number = number; value = value }

pub line_sound : (ts rest : List SpecToken) (line : MessageLine) → line_at ts ≡ taken line rest → IsMessage ts line rest
unfolding line_at
line_sound ts rest line e =
    let a = bind_some (after (codes "message") ts) _ (line, rest) e
    in let b = bind_some (first number_item a.0) _ (line, rest) a.2
    in let c = bind_some (first number_item b.0.1) _ (line, rest) b.2
    in let d = bind_some (first message_value c.0.1) _ (line, rest) c.2
    in let f = bind_some (first text_item d.0.1) _ (line, rest) d.2
    in held (λ (l : MessageLine) us. IsMessage ts l us) (line_with b.0.0 c.0.0 d.0.0) line f.0.1 rest f.2
    (a.0, b.0.1, c.0.1, d.0.1, f.0.0, a.1, b.1, c.1, d.1, f.1)

pub line_read : IsRead line_at IsMessage
unfolding line_at
line_read ts rest line is =
    let la = after_takes (codes "message") ts is.0 is.5
    in let lb = first_takes number_item is.0 is.1 line.edge is.6
    in let lc = first_takes number_item is.1 is.2 line.number is.7
    in let ld = first_takes message_value is.2 is.3 line.value is.8
    in let le = first_takes text_item is.3 rest is.4 is.9
    in (rw (is.5, is.6, is.7, is.8, is.9) refl, omega (arith, la, lb, lc, ld, le))

-- ---- items

result_sound : (ts rest : List SpecToken) (x : Item) → result_at ts ≡ taken x rest → IsItemPhrase ts x rest
unfolding result_at
result_sound ts rest x e =
    let a = bind_some (after (codes "edge") ts) _ (x, rest) e
    in let b = bind_some (first number_item a.0) _ (x, rest) a.2
    in let c = bind_some (first number_item b.0.1) _ (x, rest) b.2
    in let d = bind_some (first number_item c.0.1) _ (x, rest) c.2
    in held (λ (y : Item) us. IsItemPhrase ts y us) (item.Result b.0.0 c.0.0 d.0.0) x d.0.1 rest d.2 (a.0, b.0.1, c.0.1, a.1, b.1, c.1, d.1)

item_sound : (ts rest : List SpecToken) (x : Item) → item_at ts ≡ taken x rest → IsItemPhrase ts x rest
unfolding item_at initial_at
item_sound ts rest x e =
    elim (chosen (after (codes "initial") ts) (result_at ts) initial_at (taken x rest) e) [
      | inl h ↦ result_sound ts rest x h.1
      | inr h ↦
          let a = bind_some (first number_item h.0) _ (x, rest) h.2
          in held (λ (y : Item) us. IsItemPhrase ts y us) (item.Initial a.0.0) x a.0.1 rest a.2 (h.0, h.1, a.1)
    ]

item_read : IsRead item_at IsItemPhrase
unfolding item_at initial_at result_at
item_read ts rest (item.Initial n) is =
    let la = after_takes (codes "initial") ts is.0 is.1
    in let lb = first_takes number_item is.0 rest n is.2
    in (rw (is.1, is.2) refl, omega (arith, la, lb))
item_read ts rest (item.Result edge structure result) is =
    let other : after (codes "initial") ts ≡ None = other_mark (codes "edge") (codes "initial") ts is.0 refl is.3
    in let la = after_takes (codes "edge") ts is.0 is.3
    in let lb = first_takes number_item is.0 is.1 edge is.4
    in let lc = first_takes number_item is.1 is.2 structure is.5
    in let ld = first_takes number_item is.2 rest result is.6
    in (rw (other, is.3, is.4, is.5, is.6) refl, omega (arith, la, lb, lc, ld))

-- ---- maps

abbrev map_with : Item → (target : ℕ) → List ℕ → MapLine
map_with x target numbers = record { item = x; target = target; map = numbers }

pub map_sound : (ts rest : List SpecToken) (line : MapLine) → map_at ts ≡ taken line rest → IsMap ts line rest
unfolding map_at braces_at
map_sound ts rest line e =
    let a = bind_some (after (codes "map") ts) _ (line, rest) e
    in let b = bind_some (item_at a.0) _ (line, rest) a.2
    in let c = bind_some (after (codes "to") b.0.1) _ (line, rest) b.2
    in let d = bind_some (first number_item c.0) _ (line, rest) c.2
    in let f = bind_some (braces_at d.0.1) _ (line, rest) d.2
    in let g = bind_some (after (codes "{") d.0.1) _ f.0 f.1
    in let h = bind_some (optional_list number_item g.0) _ f.0 g.2
    in let i = bind_some (after (codes "}") h.0.1) _ f.0 h.2
    in let braces : taken h.0.0 i.0 ≡ taken f.0.0 f.0.1 = i.2
    in held (λ (l : MapLine) us. IsMap ts l us) (map_with b.0.0 d.0.0 f.0.0) line f.0.1 rest f.2
    (held (λ numbers us. IsMap ts (map_with b.0.0 d.0.0 numbers) us) h.0.0 f.0.0 i.0 f.0.1 braces
    (a.0, b.0.1, c.0, d.0.1, g.0, h.0.1, a.1, item_sound a.0 b.0.1 b.0.0 b.1, c.1, d.1, g.1, h.1, i.1))

pub map_read : IsRead map_at IsMap
unfolding map_at braces_at
map_read ts rest line is =
    let one = item_read is.0 is.1 line.item is.7
    in let la = after_takes (codes "map") ts is.0 is.6
    in let lb = one.1
    in let lc = after_takes (codes "to") is.1 is.2 is.8
    in let ld = first_takes number_item is.2 is.3 line.target is.9
    in let le = after_takes (codes "{") is.3 is.4 is.10
    in let lf = optional_takes number_item is.4 is.5 line.map is.11
    in let lg = after_takes (codes "}") is.5 rest is.12
    in (rw (is.6, one.0, is.8, is.9, is.10, is.11, is.12) refl, omega (arith, la, lb, lc, ld, le, lf, lg))
