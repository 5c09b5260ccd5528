use Rattle.std.proofs.Common.{◌≡◌, take}
use Rattle.std.specs.List.{AllZip}
use Rattle.tv_model.specs.Program.{program_of}
use Rattle.tv_losses_text.specs.Reports.{IsFoundOf}
use Rattle.tv_losses_text.proofs.claims.first_claims.Given as goal

abbrev pub invariant-loop-place : goal.invariant-loop-place
invariant-loop-place l = record {
  found : AllZip (IsFoundOf (program_of l.fn.declared) l.structures) (take l.place l.numbers) l.claims.items;
  same : l.declared ≡ l.fn.declared;
}
