-- Every drive size together: 02, wish 9, of one drive, without jobs, refusals and bytes.
--     Sizes      the load counts of all sizes, and the fewest places for a count
--     ContractWords  the slots of the curves: words that only contracts of private functions cite
pub mod Sizes
pub mod ContractWords
