pub mod Kleene
