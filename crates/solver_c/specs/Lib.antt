-- A job in working calls, for C: definitions.
-- Assumes nothing.
pub mod InCalls
