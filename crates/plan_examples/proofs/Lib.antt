-- Laws for the examples.
--     Laws  what a call answered, from what the rule computes to
pub mod Laws
