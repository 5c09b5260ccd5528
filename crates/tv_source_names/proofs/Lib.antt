mod Names
mod Blocks
mod Kept
