-- A list of tests that is carried out step by step: 02, wish 7, "Look, then commit".
--     Stepping  making a state, a look, and a commit
--     InTurn    WISH 7, the statement: the commits in turn are the plan
pub mod Stepping
pub mod InTurn
