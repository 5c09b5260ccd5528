mod Alike
mod Meanings
mod Noted
mod Turns
