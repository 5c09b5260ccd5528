use Rattle.std.proofs.Common.{ℕ, ◌≡◌, ◌<◌, ◌∙◌, [], All, Contains, List, ap, get_or, length, slice_get, subst}
use Rattle.std.proofs.Common.{sym, unwrap_or}
use Rattle.std.proofs.lemmas.Option.{unwrap_or-slice_get}
use Rattle.tv_model.specs.declared.program.Rule.{Rule}
use Rattle.tv_rules.specs.EntryForms.{rules_of}
use Rattle.tv_rules.specs.Moved.{IsMoved}
use Rattle.tv_rules.proofs.MovedLaws.{family-has, family-within}
use Rattle.tv_rules.proofs.closed.Closed.family.Goals as goal

pub returns-clause-those : goal.returns-clause-those
returns-clause-those c =
    let s = c.self.inside
    in let is : c.numbers_at.result.now ≡ get_or s.families c.args.occurrence.rule []
    = c.numbers_at.ensures ∙ ap (λ (lists : List (List ℕ)). unwrap_or (slice_get lists c.args.occurrence.rule) []) c.as_slice.ensures
    ∙ unwrap_or-slice_get s.families c.args.occurrence.rule []
    in let Of : List Rule → Type 0 = λ bases. (n : ℕ) → IsMoved bases c.args.occurrence n → Contains c.numbers_at.result.now n
    in subst Of c.self.view_is
    (λ n moved. subst (λ ns. Contains ns n) (sym is) (family-has s.bases s.occurrences s.families c.self.invariant.1 c.args.occurrence n moved))

pub returns-clause-within : goal.returns-clause-within
returns-clause-within c =
    let s = c.self.inside
    in let is : c.numbers_at.result.now ≡ get_or s.families c.args.occurrence.rule []
    = c.numbers_at.ensures ∙ ap (λ (lists : List (List ℕ)). unwrap_or (slice_get lists c.args.occurrence.rule) []) c.as_slice.ensures
    ∙ unwrap_or-slice_get s.families c.args.occurrence.rule []
    in let Of : List Rule → Type 0 = λ bases. All (λ n. n < length (rules_of bases)) c.numbers_at.result.now
    in subst Of c.self.view_is
    (subst (All (λ n. n < length (rules_of s.bases))) (sym is) (family-within s.bases s.occurrences s.families c.self.invariant.1 c.args.occurrence.rule))
