mod Fated
mod Finding
mod Planned
mod Turns
