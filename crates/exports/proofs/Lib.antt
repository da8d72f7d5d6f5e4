-- What the numbers tell that C is answered.
--     Numbers  a refusal's number fits, and counts and refusals never meet
--     Told     .. of what each function answers
--     States   the numbers of a state, as they are read and written
--     Sizes    all sizes and the fewest places, as they were answered, and what is asked of a table
pub mod Numbers
pub mod Told
pub mod States
pub mod Sizes
