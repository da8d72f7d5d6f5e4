-- What the shared rules mean.
--     Laws          outcomes that are done, and outcomes that are refused
--     Examination   the examination of handed numbers, test by test
--     Refuses       which refusals can come out
--     Orders        counting in lists of tests
--     JobExact      what passes the examination is a job, and a job passes
--     BookedExact   of the booked places: exactly when 10 at 260, and 13, are given
--     MethodExact   of the method: exactly when 10 at 3 is given
--     HeldExact     of the curves held at the start: exactly when 14 is given, and at which curve
--     Faults        a refusal names the first position with a fault
--     Marks         flags of the tests that were met
--     OrderTurns    one turn of the examination of an order
--     OrderExact    refusal 8 is not given exactly where an order names each test once
--     OrderFault    refusal 8 names the first position with a fault
--     SizingExact   02, wish 9: apart from 7, the walk for every drive size refuses as planning does
pub mod Laws
pub mod Examination
pub mod Refuses
pub mod Orders
pub mod JobExact
pub mod BookedExact
pub mod MethodExact
pub mod Faults
pub mod HeldExact
pub mod Marks
pub mod OrderTurns
pub mod OrderExact
pub mod OrderFault
pub mod SizingExact
