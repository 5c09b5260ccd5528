use Rattle.std.proofs.Common.{map, get_or, sym}
use Rattle.std.proofs.lemmas.List.{get_or-map, length-map}
use Rattle.tv_kleene.specs.declared.K3.TheVariants.{No}
use Rattle.tv_kleene.specs.Kleene.{negation_of, smaller_of}
use Rattle.tv_row.proofs.WordOps.{get_or-paired, length-paired}
use Rattle.tv_embed.proofs.AllowedLaws.{half_over}
use Rattle.tv_embed.proofs.candidates.over.Goals as goal

pub returns-in-Half-clause-long : goal.returns-in-Half-clause-long
returns-in-Half-clause-long c =
    rw (c.and.ensures, c.not-in-Half.ensures)
    (length-paired smaller_of c.args.values (map negation_of c.args.values) (sym (length-map c.args.values negation_of)))

pub returns-in-Half-clause-over : goal.returns-in-Half-clause-over
returns-in-Half-clause-over c w lt under =
    rw (
      c.and.ensures,
      c.not-in-Half.ensures,
      get_or-paired smaller_of c.args.values (map negation_of c.args.values) w lt (rw (length-map c.args.values negation_of) lt),
      get_or-map negation_of c.args.values w No No lt,
    )
    (half_over (get_or c.args.values w No) (rw c.in-Half.is at under))
