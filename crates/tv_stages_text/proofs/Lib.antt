mod OverAll
mod Turns
