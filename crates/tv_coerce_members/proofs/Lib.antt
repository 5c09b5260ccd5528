-- What only this crate cites.
mod Gathering
mod Placing
