use Rattle.std.proofs.Common.{map}
use Rattle.tv_model.specs.Program.{rule_of}
use Rattle.tv_rules.specs.Closing.{closed_set}
use Rattle.tv_rules.specs.Standing.{StandsIn}
use Rattle.tv_rules.specs.Flags.{Flags}
use Rattle.tv_rules.proofs.Family.{bases-below, standing_flags}
use Rattle.tv_rules.proofs.FlagLemmas.{numbers-of_result}
use Rattle.tv_rules.proofs.watch.standing.Goals as goal

pub entry_flags-requires : goal.entry_flags-requires
entry_flags-requires c =
    bases-below (Flags (StandsIn c.args.p.0)) (map rule_of c.args.bases.now) c.in_ok-of_bases.of_bases.items c.args.entries.now
    c.as_slice.result.now c.as_slice.ensures.value c.requires.entries c.in_ok-of_bases.ensures

pub returns : goal.returns
returns c =
    numbers-of_result (StandsIn c.args.p.0) (closed_set (map rule_of c.args.bases.now)) c.in_ok-flags.flags.items c.as_slice-2.result.now
    c.as_slice-2.ensures.value c.numbers.result
    (standing_flags c.args.p.0 (map rule_of c.args.bases.now) c.in_ok-of_bases.of_bases.items c.args.entries.now
    c.in_ok-flags.flags.items c.as_slice.result.now c.as_slice.ensures.value c.requires.entries c.in_ok-of_bases.ensures
    c.in_ok-flags.ensures)
    c.numbers.ensures
