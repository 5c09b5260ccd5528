mod Ending
mod Naming
mod Counting
mod Lining
mod Weaving
mod Comparing
