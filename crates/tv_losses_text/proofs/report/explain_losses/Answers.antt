use Rattle.std.proofs.Common.{ℕ, ◌<◌, ◌∙◌, All, List, ap, length, subst, sym}
use Rattle.tv_model.specs.Program.{program_of}
use Rattle.tv_structure_form.specs.StructureForm.{StructureForm}
use Rattle.tv_losses_text.specs.Reports.{AreFound}
use Rattle.tv_losses_text.specs.Texts.{losses_text}
use Rattle.tv_losses_text.proofs.Parts.{all-within, any-is}
use Rattle.tv_losses_text.proofs.report.explain_losses.Goals as goal

pub first_claims-requires-clause-within : goal.first_claims-requires-clause-within
first_claims-requires-clause-within c =
    subst (λ (xs : List StructureForm). All (λ number. number < length xs) c.as_slice-2.result.now)
    (sym c.as_slice.ensures)
    (subst (λ (ns : List ℕ). All (λ number. number < length c.args.initial.now) ns) (sym c.as_slice-2.ensures)
    (all-within (program_of c.args.program.now) c.args.initial.now c.in_ok-found.found.initial
    c.in_ok-found.ensures.losses.are.initial_are))

pub returns-clause-report : goal.returns-clause-report
returns-clause-report c =
    let p = program_of c.args.program.now
    in let losses = c.in_ok-found.found
    in let claims = c.in_ok-claims.claims.items
    in record {
      losses = losses;
      are = c.in_ok-found.ensures.losses;
      claims = claims;
      found = subst (λ (xs : List StructureForm). AreFound p xs losses.initial claims) c.as_slice.ensures
          (subst (λ (ns : List ℕ). AreFound p c.as_slice.result.now ns claims) c.as_slice-2.ensures
          (subst (λ q. AreFound (program_of q) c.as_slice.result.now c.as_slice-2.result.now claims)
          c.in_ok-declared.ensures c.in_ok-claims.ensures));
      text = c.in_ok-text.ensures
          ∙ ap (λ found. losses_text p c.args.heads.now found losses) c.as_slice-3.ensures.value;
      any = any-is losses c.are_none.result c.are_none.ensures;
    }
