mod Callings
mod Parted
mod Spelt
mod Told
mod Walked
mod Whole
mod LabelLaws
