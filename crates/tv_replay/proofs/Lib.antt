pub mod Going
pub mod Readiness
mod Later
