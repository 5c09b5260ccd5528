use Rattle.std.proofs.Common.{◌≡◌, ◌-◌, ◌∙◌, true, false, arith, length, take, get_or, sym, subst}
use Rattle.std.proofs.lemmas.Bool.{false≢true}
use Rattle.std.proofs.lemmas.List.{length-map}
use Rattle.tv_model.specs.Form.{IsFree, form_of}
use Rattle.tv_model.specs.declared.formula.Var.{Var}
use Rattle.tv_coerce_members.specs.Members.{IsReadAs, numbers_of}
use Rattle.tv_coerce_members.proofs.Placing.{last-split, placed-in, placed-member}
use Rattle.tv_coerce_members.proofs.members.own_member.Goals as goal
use Rattle.tv_coerce_members.proofs.members.own_member.Goals.{then-last, else-last}

pub returns-after-last-clause-placed : goal.returns-after-last-clause-placed
returns-after-last-clause-placed c =
    let vars = c.args.vars.now
    in let d : Var = record { 0 = 0 }
    in let v : Var = get_or vars (length vars - 1) d
    in let before = take (length vars - 1) vars
    in let wait = c.wait_of-wait.result
    in let read : c.free-last.result ≡ true → IsReadAs v.0 c.if-last.result (form_of c.args.f.now) = λ is.
    elim c.if-last.branch [
      | then-last w ↦ subst (λ r. IsReadAs v.0 r (form_of c.args.f.now)) (sym w.result-is) w.reading_of.ensures
      | else-last w ↦ absurd (cc (is, w.if-last.false))
    ]
    in let apart : c.free-last.result ≡ false → (c.if-last.result ≡ wait.reading) × (¬ IsFree v.0 (form_of c.args.f.now)) = λ is.
    elim c.if-last.branch [
      | then-last w ↦ absurd (cc (is, w.if-last.true))
      | else-last w ↦ (w.result-is, λ free. false≢true (sym is ∙ c.free-last.ensures.1 free))
    ]
    in placed-in vars before v _ (last-split vars d c.in-len1-up.len_at_least)
    (placed-member (numbers_of before) v.0 (form_of c.args.f.now) (form_of c.in_ok-copy-in-len1-up.field-0) wait.left wait.reading
    c.if-last.result c.free-last.result c.in_ok-copy-in-len1-up.ensures
    (omega (arith, c.wait_of-wait.ensures.most, length-map before (λ (u : Var). u.0))) c.wait_of-wait.ensures.waits read apart)
