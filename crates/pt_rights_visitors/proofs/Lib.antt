mod Openings
mod Walk
