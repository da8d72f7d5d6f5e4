-- The examples, computed.
--     Rules    every rule, to be unfolded at once
--     Starred  THE STARRED EXAMPLES, one theorem
--     Others   the other examples
--     Booked   examples of booked places
--     Halfway  examples of plans from what is held
--     Looks    examples of looks and commits
--     OldFiles examples of old job files, with method 2
--     EverySize  examples of every drive size together
pub mod Rules
pub mod Starred
pub mod Others
pub mod Booked
pub mod Halfway
pub mod Looks
pub mod OldFiles
pub mod EverySize
