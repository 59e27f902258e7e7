-- Definitions that the walk over the arcs alone needs.
pub mod Walk
