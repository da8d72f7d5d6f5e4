-- What the stages come to.
--     Reading  reading into a list that is long enough
--     Stages   ordering and planning into lists that are long enough
--     Entries  the first entries of the lists that were filled
--     Composed  reading, ordering and planning in turn
pub mod Reading
pub mod Stages
pub mod Entries
pub mod Composed
