-- The written rules of document 01 on the bytes of sets and of jobs.
--     SetBytes  a set of curves as a group map and group bytes: written and read
--     JobBytes  the job bytes: written and read
--     OldFiles  old job files, those with method 2, and the same with 1 in its place
pub mod SetBytes
pub mod JobBytes
pub mod OldFiles
