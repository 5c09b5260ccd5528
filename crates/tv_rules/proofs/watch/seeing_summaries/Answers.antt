use Rattle.std.proofs.Common.{map}
use Rattle.tv_model.specs.Program.{rule_of}
use Rattle.tv_rules.specs.Closing.{closed_set}
use Rattle.tv_rules.specs.Standing.{HasEqualityIn, SeesSummaries}
use Rattle.tv_rules.specs.Flags.{Flags}
use Rattle.tv_rules.proofs.Family.{bases-below, summary_flags}
use Rattle.tv_rules.proofs.FlagLemmas.{numbers-of_result}
use Rattle.tv_rules.proofs.watch.seeing_summaries.Goals as goal

pub summary_flags-requires : goal.summary_flags-requires
summary_flags-requires c =
    bases-below (Flags HasEqualityIn) (map rule_of c.args.bases.now) c.in_ok-of_bases.of_bases.items c.args.entries.now
    c.as_slice.result.now c.as_slice.ensures.value c.requires c.in_ok-of_bases.ensures

pub returns : goal.returns
returns c =
    numbers-of_result SeesSummaries (closed_set (map rule_of c.args.bases.now)) c.in_ok-flags.flags.items c.as_slice-2.result.now
    c.as_slice-2.ensures.value c.numbers.result
    (summary_flags (map rule_of c.args.bases.now) c.in_ok-of_bases.of_bases.items c.args.entries.now
    c.in_ok-flags.flags.items c.as_slice.result.now c.as_slice.ensures.value c.requires c.in_ok-of_bases.ensures
    c.in_ok-flags.ensures)
    c.numbers.ensures
