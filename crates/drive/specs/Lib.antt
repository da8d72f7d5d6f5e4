-- One drive, without refusals, jobs and bytes: "Plans" and "Our plan" of document 01. A set of curves is a number, with bit c for curve c. "Capacity" is the
-- field's word for 01's places. Nothing here bounds the curves, the steps or the capacity.
--     Steps    what a step drops and loads, what is held, and how many curves are moved
--     Check    the check of steps
--     Uses     the next use of a curve
--     Plan     our plan: the choice of the drops, one step, all steps
--     ContractWords  the candidates in groups by their next use: words that only contracts of private functions cite
pub mod Steps
pub mod Check
pub mod Uses
pub mod Plan
pub mod ContractWords
