use Rattle.std.proofs.Common.{rules, arith}
use Rattle.std.specs.String.{string_bytes}
use Rattle.tv_outside.proofs.Stores.{content_of_found, content_of_none}
use Rattle.tv_outside.proofs.mem_files.MemFiles.open.Goals as goal

pub returns-in_default-clause-found : goal.returns-in_default-clause-found
returns-in_default-clause-found c =
    let place = rw c.deref.ensures.value at c.file_of.ensures in
    let held = content_of_none string_bytes (λ c. c.items) _ c.self.inside.contents.items _ _ c.self.invariant.1 place c.in_default.is in
    rw (← c.self.view_is, held) (search rules)

pub returns-in_default-clause-opened : goal.returns-in_default-clause-opened
returns-in_default-clause-opened c =
    let place = rw c.deref.ensures.value at c.file_of.ensures in
    let held = content_of_none string_bytes (λ c. c.items) _ c.self.inside.contents.items _ _ c.self.invariant.1 place c.in_default.is in
    rw (← c.self.view_is, held) (search rules)

pub invariant_of-self : goal.invariant_of-self
invariant_of-self c =
    let place = rw c.deref.ensures.value at c.file_of.ensures in
    let held = content_of_found string_bytes (λ c. c.items) _ c.self.inside.contents.items _ _ c.in-Some.file c.self.invariant.1 place c.in-Some.is in
    let begun = rw (← c.self.view_is) at c.requires in
    (c.self.invariant.0, c.self.invariant.1, (held.0, omega arith), λ none. absurd (omega (arith, begun, none)))

pub returns-clause-found : goal.returns-clause-found
returns-clause-found c =
    let place = rw c.deref.ensures.value at c.file_of.ensures in
    let held = content_of_found string_bytes (λ c. c.items) _ c.self.inside.contents.items _ _ c.in-Some.file c.self.invariant.1 place c.in-Some.is in
    rw (← c.self.view_is, held.1) (search rules)

pub returns-clause-opened : goal.returns-clause-opened
returns-clause-opened c =
    let place = rw c.deref.ensures.value at c.file_of.ensures in
    let held = content_of_found string_bytes (λ c. c.items) _ c.self.inside.contents.items _ _ c.in-Some.file c.self.invariant.1 place c.in-Some.is in
    rw (← c.self.view_is, held.1) (search rules)

pub returns-clause-same : goal.returns-clause-same
returns-clause-same c =
    let place = rw c.deref.ensures.value at c.file_of.ensures in
    let held = content_of_found string_bytes (λ c. c.items) _ c.self.inside.contents.items _ _ c.in-Some.file c.self.invariant.1 place c.in-Some.is in
    rw (← c.self.view_is, held.1) (search rules)
