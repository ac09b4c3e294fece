-- A layer at once: definitions.
-- Assumes nothing.
pub mod Layers
