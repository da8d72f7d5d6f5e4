-- Plans: "Plans", "Our plan", and demand 3 of document 01.
--     Plan      a plan as it is handed over, steps with their tests, and the wants of the steps (the rules of one drive: `drive`)
--     Planning  planning and checking, with their refusals, and what planning leaves in the lent lists
--     Demand3   DEMAND 3, the statement
--     ContractWords planning without its examinations: words that no promise to a caller of the library cites
pub mod Plan
pub mod Planning
pub mod Demand3
pub mod ContractWords
