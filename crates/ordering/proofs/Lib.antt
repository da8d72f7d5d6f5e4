-- Each method's order names each test exactly once; and what the proofs of the code lean on.
--     Filter        those of a list that pass a test
--     Window        a part of a list that was lent
--     Complete      each method's order names each test exactly once
--     Degrees       sums of weights, a test's degree from the numbers of tests that want each curve, and the largest degree
--     Unlisted      the list of the unlisted tests, each with its key
--     Ranks         sorting by rank
--     CuthillMcKee  the walk of method 1
--     Arrays        the walk as the code keeps it
--     Ordered       the methods by their numbers, and ordering by its examinations
pub mod Filter
pub mod Window
pub mod Complete
pub mod Degrees
pub mod Unlisted
pub mod Ranks
pub mod CuthillMcKee
pub mod Arrays
pub mod Ordered
