mod Tables
mod Untold
mod Alterings
mod NewWires
