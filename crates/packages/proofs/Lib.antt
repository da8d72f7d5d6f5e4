-- Method 3's order names each test exactly once, and what its rules choose; and what the proofs of the code lean on.
--     Written  what a list holds of which the first entries were written
--     Listed   the tests in list order
--     Rounds   the rounds end, and each test comes once
--     Entered  numbers that are written to a list where they fit
--     Lists    lists that are changed in place
--     Counts   lists of counts and of sizes
--     Rows     the closest pair, row by row
--     Renew    the rating of each row, kept over a join
--     Ratings  the closest pair by the ratings
--     Runs     heads, tails and flipping
--     State    the packages as the code holds them, and a turn of the rounds
--     Meaning  what the rules choose: the pair that is joined, heads and tails, flipping
pub mod Written
pub mod Listed
pub mod Rounds
pub mod Entered
pub mod Lists
pub mod Counts
pub mod Rows
pub mod Renew
pub mod Ratings
pub mod Runs
pub mod State
pub mod Meaning
