use Rattle.std.proofs.Common.{◌≡◌, ◌+◌, ◌*◌, ◌/◌, ◌%◌, ◌∙◌, [], get_or, sym, ap}
use Rattle.std.proofs.Common.{subst, arith}
use Rattle.std.specs.Prelude.{slice_get}
use Rattle.tv_model.specs.Form.{form_of}
use Rattle.tv_model.specs.Truth.{put}
use Rattle.tv_eval_laws.specs.Value.{value}
use Rattle.tv_quantifiers.specs.Parts.{HoldsPart}
use Rattle.tv_quantifiers.proofs.Keeping.{any-default, nothing-known, one-known, same-held}
use Rattle.tv_quantifiers.proofs.parts.Parts.keep.Goals as goal

pub returns-in-None : goal.returns-in-None
returns-in-None c = λ s holds is.
    let at : 64 * (c.args.u / 64) + c.args.u % 64 ≡ c.args.u = omega arith
    in c.put.ensures s (record { each = λ k p at. holds.each k p (sym (ap (λ ps. slice_get ps k) c.place.ensures.same) ∙ at) })
    (one-known s _ c.of-none.result c.of-none.result _ _ (c.args.u % 64) c.args.x
    (nothing-known s _ c.of-none.result c.of-none.ensures) (omega arith) c.with.ensures c.with-in-None.ensures
    (λ a. ap (λ n. value s (put a c.args.v.0 n) (form_of c.args.f.now)) at ∙ is a))

pub returns-in-Some : goal.returns-in-Some
returns-in-Some c = λ s holds is.
    let at : 64 * (c.args.u / 64) + c.args.u % 64 ≡ c.args.u = omega arith
    in let stands = c.in-Some.ensures.place.1
    in let known : get_or c.args.self.now.known c.in-Some.place [] ≡ c.index-known-place.result =
    any-default c.args.self.now.known c.in-Some.place [] c.index-known-place.result (omega (arith, c.in-Some.ensures.place.0))
    ∙ sym c.index-known-place.is
    in let values : get_or c.args.self.now.values c.in-Some.place [] ≡ c.index-values-place.result =
    any-default c.args.self.now.values c.in-Some.place [] c.index-values-place.result (omega (arith, c.in-Some.ensures.place.0))
    ∙ sym c.index-values-place.is
    in let before : HoldsPart s stands.part c.index-known-place.result c.index-values-place.result =
    subst (λ row. HoldsPart s stands.part c.index-known-place.result row) values
    (subst (λ flags. HoldsPart s stands.part flags (get_or c.args.self.now.values c.in-Some.place [])) known
    (holds.each c.in-Some.place stands.part stands.there))
    in c.put-in-Some.ensures s (record { each = λ k p at. holds.each k p (sym (ap (λ ps. slice_get ps k) c.place.ensures.same) ∙ at) })
    (one-known s _ c.index-known-place.result c.index-values-place.result _ _ (c.args.u % 64) c.args.x
    (same-held s stands.part _ c.index-known-place.result c.index-values-place.result stands.same_formula
    stands.same_var stands.same_chunk before)
    (omega arith) c.with-known.ensures c.with-values.ensures
    (λ a. ap (λ n. value s (put a c.args.v.0 n) (form_of c.args.f.now)) at ∙ is a))
