-- From a job's bytes to an order of its tests and a plan for it: "reading, ordering, planning".
--     Planned    the three stages in turn
--     ContractWords  what they answer and leave in the lists that are lent to them: words that no promise to a caller of the library cites
pub mod Planned
pub mod ContractWords
