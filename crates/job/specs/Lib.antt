-- The written rules of document 01 that every part shares.
--     Refusal   the paper's number and figure of each refusal, outcomes, their sequence, and what a lent list holds afterwards
--     Words     a job, an order of its tests, and a holding: "The words of demand 3"; and which numbers are methods
--     Handed    the examination of numbers and lists that are handed over
--     Order     the examination of an order: refusal 8
--     Calls     what is examined of what each call is handed
pub mod Refusal
pub mod Words
pub mod Handed
pub mod Order
pub mod Calls
