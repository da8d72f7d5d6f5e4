-- The orders of document 01: "Orders".
--     Methods   the orders of methods 0 and 1, and all methods by their numbers
--     Ordering  ordering, with its refusals, and what it leaves in the lent list
--     ContractWords words that only contracts of private functions use
pub mod Methods
pub mod Ordering
pub mod ContractWords
