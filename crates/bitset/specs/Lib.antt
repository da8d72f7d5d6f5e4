-- Finite sets of numbers, each written as one number.
--     Set   the operations
--     Walk  one step of a walk
pub mod Set
pub mod Walk
