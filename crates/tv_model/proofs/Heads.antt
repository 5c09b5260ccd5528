-- Lemmas on heads of rules as formulas, for the crates above.
use Rattle.std.proofs.Common.{ℕ, true, false}
use Rattle.tv_model.specs.Form.{IsFree}
use Rattle.tv_model.specs.Program.{HeadForm, HNever, HAtom, HSame}
use Rattle.tv_model.specs.Rules.{IsInHead, head_formula}
use Rattle.tv_model.specs.Valid.{NamesNew}

-- what is free in a head as a formula stands in the head
pub free-in_head : (v : ℕ) (head : HeadForm) → IsFree v (head_formula head) → IsInHead v head
free-in_head v HNever free = free
free-in_head v (HAtom true pred vars) free = free
free-in_head v (HAtom false pred vars) free = free
free-in_head v (HSame true w u) free = free
free-in_head v (HSame false w u) free = free

pub in-head_free : (v : ℕ) (head : HeadForm) → IsInHead v head → IsFree v (head_formula head)
in-head_free v HNever at = at
in-head_free v (HAtom true pred vars) at = at
in-head_free v (HAtom false pred vars) at = at
in-head_free v (HSame true w u) at = at
in-head_free v (HSame false w u) at = at

-- a head doesn't speak of a fresh individual
pub head-unmarked : (head : HeadForm) → ¬ NamesNew (head_formula head)
head-unmarked HNever n = n
head-unmarked (HAtom true pred vars) n = n
head-unmarked (HAtom false pred vars) n = n
head-unmarked (HSame true w u) n = n
head-unmarked (HSame false w u) n = n
