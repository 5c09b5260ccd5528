pub mod DeltaSteps
mod HeadSteps
pub mod Likes
mod PutSteps
mod PuttingLemmas
pub mod Steps
pub mod SizeLaws
