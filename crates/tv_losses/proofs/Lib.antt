mod Exactly
mod Losing
mod Searching
mod Telling
mod Answering
