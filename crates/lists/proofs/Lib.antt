-- The laws of these words.
--     Chosen       what is chosen by `Choice`
--     Overwritten  a list that is written from its start
--     Tests        two tests together
pub mod Chosen
pub mod Overwritten
pub mod Tests
