-- The plan bytes of document 01: "Plan bytes".
--     PlanBytes  written, read, and one step fetched
--     ContractWords  the answers of the readers of a set, a step and an end step, writing without the check: words that no promise to a caller of the library cites
pub mod PlanBytes
pub mod ContractWords
