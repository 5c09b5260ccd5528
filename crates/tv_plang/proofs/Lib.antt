mod Stages
mod Once
mod ArcSteps
mod Ranges
mod Sights
mod Sizes
mod Small
