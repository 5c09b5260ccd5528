mod Causes
mod Coercing
mod Picking
mod Telling
mod Turning
mod Updating
