-- What an answer says of the whole that its part belongs to.
use Rattle.std.proofs.Common.{◌≡◌, ◌↔◌, Bool, true, false, IsTrue, subst, Result, Ok, Err, IfOk}
use Rattle.std.proofs.lemmas.Bool.{false≢true}

-- where a part fails, so does the whole
pub part-fails : (Q A : Type 0) (b : Bool) → b ≡ false → IsTrue b ↔ Q → (A → Q) → IsTrue false ↔ A
part-fails Q A b is answer part =
    let Given : Bool → Type 0 = λ c. IsTrue c
    in (λ f. absurd (false≢true f), λ a. subst Given is (answer.1 (part a)))

-- what an answer says, where it is true
pub part-holds : (Q : Type 0) (b : Bool) → b ≡ true → IsTrue b ↔ Q → Q
part-holds Q b is answer = answer.0 is

-- the same answer to what comes to the same
pub answer-of : (Q A : Type 0) (b : Bool) → (Q → A) → (A → Q) → IsTrue b ↔ Q → IsTrue b ↔ A
answer-of Q A b to back answer = (λ t. to (answer.0 t), λ a. answer.1 (back a))

pub result-answer : {E : Type 0} (Q A : Type 0) → (Q → A) → (A → Q) → (result : Result Bool E)
    → IfOk result (λ b. IsTrue b ↔ Q) → IfOk result (λ b. IsTrue b ↔ A)
result-answer Q A to back (Ok b) answer = answer-of Q A b to back answer
result-answer Q A to back (Err e) answer = answer
