-- Lines are put one behind the other.
use Rattle.std.proofs.Common.{ℕ, ◌≡◌, ◌≢◌, ◌<◌, ◌≤◌, ◌+◌, ◌⊎◌, inl, inr, List, [], ◌∷◌, ◌++◌, length, get_or}
use Rattle.std.proofs.Common.{refl, sym, ap, subst, ◌∙◌, arith}
use Rattle.std.specs.Prelude.{Contains}
use Rattle.std.proofs.lemmas.Bool.{cases_lt}
use Rattle.std.proofs.lemmas.List.{append-nil, get_or_past}
use Rattle.std.proofs.lemmas.List.Elements.{Contains-append_left, Contains-get_or, Contains-push}
use Rattle.std.proofs.lemmas.List.Elements.{Contains-push_cases}
use Rattle.std.proofs.lemmas.List.Quantifiers.{all_pairs_push}
use Rattle.tv_kleene.specs.declared.K3.{K3}
use Rattle.tv_kleene.specs.declared.K3.TheVariants.{No, Half, Yes}
use Rattle.tv_listing.specs.declared.analysis.MessageLine.{MessageLine}
use Rattle.tv_work.specs.Analyzed.{IsBefore}
use Rattle.tv_work.specs.Told.{told_value, IsTold, ComesBefore, AreLinesTo, AreLines, line_of}

-- the line of this edge, number and value
abbrev pub line_with : (edge number : ℕ) → K3 → MessageLine
line_with edge number k = record { edge = edge; number = number; value = k }

same-line : (edge number : ℕ) (k : K3) (line : MessageLine) → line.edge ≡ edge → line.number ≡ number
    → line.value ≡ k
    → line_with edge number k ≡ line
same-line edge number k line a b c = rw (sym a, sym b, sym c) refl

next-number : (edge number : ℕ) (line : MessageLine) → ComesBefore edge number line
    → ComesBefore edge (number + 1) line
next-number edge number line (inl lt) = inl lt
next-number edge number line (inr (e, lt)) = inr (e, omega (arith, lt))

-- a line up to the next number comes before, or has this number
number-cases : (edge number : ℕ) (line : MessageLine) → ComesBefore edge (number + 1) line
    → ComesBefore edge number line ⊎ ((line.edge ≡ edge) × (line.number ≡ number))
number-cases edge number line (inl lt) = inl (inl lt)
number-cases edge number line (inr (e, bound)) = by (cases_lt line.number number)
  where
    by : (line.number < number) ⊎ (number ≤ line.number)
        → ComesBefore edge number line ⊎ ((line.edge ≡ edge) × (line.number ≡ number))
    by (inl lt) = inl (inr (e, lt))
    by (inr past) = inr (e, omega (arith, bound, past))

module _ (told : List (List K3)) (edge number : ℕ) (lines : List MessageLine)
    (are : AreLinesTo told edge number lines) where
  -- the value is No
  lines-skip : told_value told edge number ≡ No → AreLinesTo told edge (number + 1) lines
  lines-skip nothing = record {
    each = λ line. (
      λ has. let is = (are.each line).0 has in (is.0, next-number edge number line is.1),
      λ (is, before). by line is (number-cases edge number line before),
    );
    ordered = are.ordered;
  }
    where
      by : (line : MessageLine) → IsTold told line → ComesBefore edge number line
          ⊎ ((line.edge ≡ edge) × (line.number ≡ number))
          → Contains lines line
      by line is (inl before) = (are.each line).1 (is, before)
      by line is (inr (e, n)) =
          absurd (is.some (is.value ∙ ap (λ m. told_value told m line.number) e ∙ ap (told_value told edge) n
          ∙ nothing))

  -- it isn't
  lines-more : (k : K3) → k ≢ No → told_value told edge number ≡ k
      → AreLinesTo told edge (number + 1) (lines ++ line_with edge number k ∷ [])
  lines-more k some value = record {
    each = λ line. (
      λ has. into line (Contains-push_cases lines (line_with edge number k) line has),
      λ (is, before). back line is (number-cases edge number line before),
    );
    ordered = all_pairs_push IsBefore lines (line_with edge number k) are.ordered
        (λ i d within. (((are.each (get_or lines i d)).0 (Contains-get_or lines i d within)).1));
  }
    where
      into : (line : MessageLine) → Contains lines line ⊎ (line_with edge number k ≡ line) → IsTold told line
          × ComesBefore edge (number + 1) line
      into line (inl has) = let is = (are.each line).0 has in (is.0, next-number edge number line is.1)
      into line (inr e) = subst (λ l. IsTold told l × ComesBefore edge (number + 1) l) e
          (record { value = sym value; some = some }, inr (refl, omega arith))

      back : (line : MessageLine) → IsTold told line → ComesBefore edge number line
          ⊎ ((line.edge ≡ edge) × (line.number ≡ number))
          → Contains (lines ++ line_with edge number k ∷ []) line
      back line is (inl before) = Contains-append_left lines (line_with edge number k ∷ []) line
          ((are.each line).1 (is, before))
      back line is (inr (e, n)) =
          let v : line.value ≡ k = is.value ∙ ap (λ m. told_value told m line.number) e
          ∙ ap (told_value told edge) n ∙ value
          in subst (Contains (lines ++ line_with edge number k ∷ [])) (same-line edge number k line e n v)
          (Contains-push lines (line_with edge number k))

  pub lines-next : (k : K3) → told_value told edge number ≡ k
      → AreLinesTo told edge (number + 1) (lines ++ line_of edge number k)
  lines-next No value = subst (AreLinesTo told edge (number + 1)) (sym (append-nil lines)) (lines-skip value)
  lines-next Half value = lines-more Half (λ e. absurd cc) value
  lines-next Yes value = lines-more Yes (λ e. absurd cc) value

  -- the row has no further value
  pub lines-row : length (get_or told edge []) ≤ number → AreLinesTo told (edge + 1) 0 lines
  lines-row past = record {
    each = λ line. (
      λ has. let is = (are.each line).0 has in (is.0, up line is.1),
      λ (is, before). (are.each line).1 (is, down line is before),
    );
    ordered = are.ordered;
  }
    where
      up : (line : MessageLine) → ComesBefore edge number line → ComesBefore (edge + 1) 0 line
      up line (inl lt) = inl (omega (arith, lt))
      up line (inr (e, lt)) = inl (omega (arith, e))

      down : (line : MessageLine) → IsTold told line → ComesBefore (edge + 1) 0 line
          → ComesBefore edge number line
      down line is (inr (e, lt)) = absurd (omega (arith, lt))
      down line is (inl bound) = by (cases_lt line.edge edge)
        where
          at-row : line.edge ≡ edge → (line.number < number) ⊎ (number ≤ line.number)
              → ComesBefore edge number line
          at-row e (inl lt) = inr (e, lt)
          at-row e (inr behind) = absurd (is.some (is.value ∙ ap (λ m. told_value told m line.number) e
              ∙ get_or_past (get_or told edge []) line.number No (omega (arith, past, behind))))

          by : (line.edge < edge) ⊎ (edge ≤ line.edge) → ComesBefore edge number line
          by (inl lt) = inl lt
          by (inr from) = at-row (omega (arith, bound, from)) (cases_lt line.number number)

pub lines-all : (told : List (List K3)) (edge : ℕ) (lines : List MessageLine) → AreLinesTo told edge 0 lines
    → length told ≤ edge → AreLines told lines
lines-all told edge lines are past = record {
  each = λ line. (
    λ has. ((are.each line).0 has).0,
    λ is. (are.each line).1 (is, inl (within line is (cases_lt line.edge edge))),
  );
  ordered = are.ordered;
}
  where
    within : (line : MessageLine) → IsTold told line → (line.edge < edge) ⊎ (edge ≤ line.edge)
        → line.edge < edge
    within line is (inl lt) = lt
    within line is (inr behind) =
        absurd (is.some (is.value ∙ ap (λ row. get_or row line.number No)
        (get_or_past told line.edge [] (omega (arith, past, behind)))))
