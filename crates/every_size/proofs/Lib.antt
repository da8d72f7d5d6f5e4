-- What the rules of every drive size mean, and the walk that makes them.
--     LoadCounts  on the rules: MORE PLACES NEVER MEAN MORE LOADS, and the fewest places for a count
--     Stays       a candidate stays exactly where fewer have to go than go before it
--     Slots       THE SLOTS OF ALL DRIVE SIZES: one curve gets its new slot
--     Places      the others get their slots, those with the soonest next use first, and one step of the walk
--     Loads       the loads of the wanted curves, counted by their slots
--     Sizes       the entries of all drive sizes, as loops make them
--     EverySize   THE WALK FOR EVERY DRIVE SIZE: the loads by slots are the single plans'
pub mod LoadCounts
pub mod Stays
pub mod Slots
pub mod Places
pub mod Loads
pub mod Sizes
pub mod EverySize
