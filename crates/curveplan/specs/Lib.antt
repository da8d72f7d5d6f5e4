-- The call of the rig's host, and what the library promises.
--     Call     reading, ordering, planning, writing; the one number it answers
--     Library  WHAT THE LIBRARY PROMISES
pub mod Call
pub mod Library
