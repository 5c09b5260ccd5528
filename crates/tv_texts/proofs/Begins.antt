-- How often files are begun, as an answer tells it.
use Rattle.std.proofs.Common.{ℕ, Option, Result, Ok, Err}
use Rattle.tv_lex.proofs.Begins.{begins_at_most}
use Rattle.tv_lex.specs.Gather.{BeginsAtMost, BeginsBy, BeginsUpTo as gathering_begins}
use Rattle.tv_lex.specs.declared.gatherer.GatherError.{GatherError}
use Rattle.tv_lex.specs.declared.gatherer.GatherError.TheVariants as gathering
use Rattle.tv_outside.specs.Told.{Held}
use Rattle.tv_texts.specs.Faults.{fault_of_gathering}
use Rattle.tv_texts.specs.Files.{BeginsUpTo}
use Rattle.tv_texts.specs.declared.fault.TextFault.{TextFault}
use Rattle.tv_texts.specs.declared.fault.TextFault.TheVariants.{Refused, NotRead, Memory}

-- how often files were begun for a program that wasn't gathered
pub ungathered_begins : (T U : Type 0) (e : GatherError) (told : Option Held) (times : Held → ℕ) (old new : ℕ)
    → gathering_begins {T = T} (Err e) told times old new → BeginsUpTo {T = U} (Err (fault_of_gathering e)) told times old new
ungathered_begins T U gathering.Failed told times old new h = h
ungathered_begins T U gathering.Memory told times old new h = h
ungathered_begins T U gathering.TooLong told times old new h = h
ungathered_begins T U gathering.Unended told times old new h = h
ungathered_begins T U gathering.IncludeForm told times old new h = h
ungathered_begins T U gathering.IncludeDepth told times old new h = h

-- an exact count serves any answer
pub begins_anyway : {T : Type 0} (result : Result T TextFault) (told : Option Held) (times : Held → ℕ) (old new : ℕ)
    → BeginsBy told times old new → BeginsUpTo result told times old new
begins_anyway (Ok found) told times old new h = h
begins_anyway (Err (Refused its kind)) told times old new h = h
begins_anyway (Err NotRead) told times old new h = begins_at_most told times old new h
begins_anyway (Err Memory) told times old new h = begins_at_most told times old new h

-- and any answer has an upper bound
pub begun_at_most : {T : Type 0} (result : Result T TextFault) (told : Option Held) (times : Held → ℕ) (old new : ℕ)
    → BeginsUpTo result told times old new → BeginsAtMost told times old new
begun_at_most (Ok found) told times old new h = begins_at_most told times old new h
begun_at_most (Err (Refused its kind)) told times old new h = begins_at_most told times old new h
begun_at_most (Err NotRead) told times old new h = h
begun_at_most (Err Memory) told times old new h = h
