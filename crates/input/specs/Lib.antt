-- Words for what was read into a buffer.
--     Counts  how many bytes stand at its start
pub mod Counts
