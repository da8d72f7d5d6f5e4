-- The laws of sets, for every width together.
--     Bits     the bits of a set, and how sets and sizes are compared bit by bit
--     Laws     parts, the algebra of sets, sizes
--     Element  the set of one element, the lowest element, sums, and what `!`, `<<` and `>>` give
--     Parts    parts of sets, bit by bit
pub mod Bits
pub mod Laws
pub mod Element
pub mod Parts
