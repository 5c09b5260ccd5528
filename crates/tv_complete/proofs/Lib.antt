mod Keeping
mod Determined
