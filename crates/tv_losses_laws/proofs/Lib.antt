mod Bare
mod BareSteps
mod Breaks
pub mod Cored
mod Declarations
pub mod Determined
mod Enabled
mod Examples
mod Kept
mod NoResults
mod Over
mod Updates
