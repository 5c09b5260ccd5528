-- The library of lemmas on finite differencing, for the crates above.
pub mod Assigned
pub mod AtomTruths
pub mod DeltaTruths
pub mod Differenced
pub mod FitUpdates
pub mod Fits
pub mod FormulaTruths
pub mod OneDifferenced
pub mod Options
pub mod OwnVariables
pub mod PutTruths
pub mod Puttings
pub mod QuantifierTruths
pub mod SimpleLaws
pub mod StepTruths
