-- The examples of document 01, on the written rules.
--     Starred  THE STARRED EXAMPLES
--     Others   the other examples, and examples that tell readings apart
--     Booked   examples of 02, wish 5
--     Halfway  examples of 02, wish 6
--     Looks    examples of 02, wish 7
--     OldFiles examples of 02, wish 8
--     EverySize  examples of 02, wish 9
pub mod Starred
pub mod Others
pub mod Booked
pub mod Halfway
pub mod Looks
pub mod OldFiles
pub mod EverySize
