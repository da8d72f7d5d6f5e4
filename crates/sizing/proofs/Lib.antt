-- What the rules of sizing mean.
--     Reordered  an order's steps want what the list's tests want
--     EverySize  WISH 9, the proof
--     Refused    apart from 7, the walk refuses as planning does
--     Sized      what the calls answer
pub mod Reordered
pub mod EverySize
pub mod Refused
pub mod Sized
