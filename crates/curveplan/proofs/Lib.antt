-- What the call of the rig's host comes to, and what the library promises.
--     Composed  reading, ordering, planning and writing in turn
--     Answers   which refusals come out, and what the bytes written are
--     Booked    places less booked, wherever 01 says places
--     Library   WHAT THE LIBRARY PROMISES, proved
pub mod Composed
pub mod Answers
pub mod Booked
pub mod Library
