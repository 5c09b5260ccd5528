-- Texts of items and lines, where there are some.
use Rattle.std.proofs.Common.{◌≡◌, ◌≢◌, ◌∙◌, ℕ, ◌+◌, ◌<◌, List, [], ◌∷◌, ◌++◌, length, drop, map, get_or}
use Rattle.std.proofs.Common.{refl, sym, ap}
use Rattle.std.proofs.Common.{append_assoc, arith, ◌≤◌}
use Rattle.std.specs.Prelude.{codes}
use Rattle.std.proofs.lemmas.List.{drop_more, drop_all, append-nil}
use Rattle.tv_model.specs.Program.{pred_of}
use Rattle.tv_model.specs.declared.program.Pred.{Pred}
use Rattle.tv_structure_form.specs.StructureForm.{StructureForm}
use Rattle.tv_complete_text.specs.Lines.{braced, entry_line, led_by, missing_line, missing_lines}
use Rattle.tv_complete_text.specs.Named.{NamedForm}

pub braced_some : (items : List ℕ) → length items ≢ 0 → braced items ≡ codes "{" ++ (drop 2 items ++ codes "}")
braced_some [] some = absurd (some refl)
braced_some (x ∷ xs) some = refl

pub braced_none : (items : List ℕ) → length items ≡ 0 → braced items ≡ []
braced_none [] none = refl
braced_none (x ∷ xs) none = absurd cc

pub line_some : (indent name values : List ℕ) → length values ≢ 0
    → entry_line indent name values ≡ indent ++ (codes "  " ++ (name ++ (codes " = " ++ (values ++ codes "\n"))))
line_some indent name [] some = absurd (some refl)
line_some indent name (x ∷ xs) some = refl

pub line_none : (indent name values : List ℕ) → length values ≡ 0 → entry_line indent name values ≡ []
line_none indent name [] none = refl
line_none indent name (x ∷ xs) none = absurd cc

pub led_some : (feed lines : List ℕ) → length lines ≢ 0 → led_by feed lines ≡ feed ++ lines
led_some feed [] some = absurd (some refl)
led_some feed (x ∷ xs) some = refl

pub led_none : (feed lines : List ℕ) → length lines ≡ 0 → led_by feed lines ≡ []
led_none feed [] none = refl
led_none feed (x ∷ xs) none = absurd cc

-- ---- lines one after the other

module _ (indent : List ℕ) (x : NamedForm) (t : StructureForm) where
  pub lines-step : (out : List ℕ) (preds : List Pred) (p : ℕ) (pred : Pred) → p < length preds → pred ≡ get_or preds p
      pred
      → (out ++ missing_line indent x t p (pred_of pred)) ++ missing_lines indent x t (p + 1)
      (map pred_of (drop (p + 1) preds))
      ≡ out ++ missing_lines indent x t p (map pred_of (drop p preds))
  lines-step out preds p pred below is =
      append_assoc out (missing_line indent x t p (pred_of pred))
      (missing_lines indent x t (p + 1) (map pred_of (drop (p + 1) preds)))
      ∙ ap (λ ds. out ++ missing_lines indent x t p (map pred_of ds))
      (sym (drop_more preds p pred below ∙ ap (λ d. d ∷ drop (p + 1) preds) (sym is)))

  pub lines-done : (out : List ℕ) (preds : List Pred) (p : ℕ) → length preds ≡ p
      → out ++ missing_lines indent x t p (map pred_of (drop p preds)) ≡ out
  lines-done out preds p all =
      ap (λ ds. out ++ missing_lines indent x t p (map pred_of ds)) (drop_all p preds (omega (arith, all)))
      ∙ append-nil out
