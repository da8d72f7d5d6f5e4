-- What the functions for C answer.
--     Numbers  outcomes as numbers
--     States   the numbers of a state, and the next step
pub mod Numbers
pub mod States
