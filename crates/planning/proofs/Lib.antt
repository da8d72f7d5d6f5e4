-- What the rules of planning mean, and demand 3.
--     CheckExact  the check passes exactly the plans that keep every rule
--     EntryFault  before that, refusal 12 names the first missing or surplus position of the drops or loads
--     FirstFault  refusal 12 names the first step that breaks a rule
--     Demand3     DEMAND 3, the proof
--     WithoutTests  a job without tests
--     Rest        a list that is stopped halfway
--     Saved       what is held costs no load, and saves at most one for each of its curves
--     OtherPlans  plans that are not ours and pass the check, with plans that do not
--     Turns       one turn of a loop
--     Sequence    planning and checking, examination by examination
--     Planned     what planning answers and leaves
pub mod CheckExact
pub mod EntryFault
pub mod FirstFault
pub mod Demand3
pub mod WithoutTests
pub mod Rest
pub mod Saved
pub mod OtherPlans
pub mod Turns
pub mod Sequence
pub mod Planned
