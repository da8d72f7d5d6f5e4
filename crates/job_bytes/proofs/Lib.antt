-- What the rules on the bytes of sets and of jobs mean.
--     Turns         one turn of a loop over bytes
--     Encoding      one turn of a loop that writes bytes, and runs of stores
--     GroupByte     one group byte, and what its reader's answer says
--     Heads         reading a head, step by step
--     Records       reading the records and the whole job, step by step
--     Spans         how many bytes a reading takes at most, and where its figures point
--     Behind        bytes behind those that a reading takes do not change it
--     JobWritten    writing a job, step by step
--     SetRoundTrip  a set that is written reads back, and the other way round
--     HeadRoundTrip the same of a head, by induction over the table of fields
--     JobRoundTrip  the same of a job
--     Alike         readings of bytes that differ at one place, before it
--     OldFiles      bytes are read as those with 1 in the place of a method byte 2, and what a head's bytes become so
--     JobBounds     how long job bytes are, how large their figures, and that bytes behind the 2,312th change nothing
--     ReadExact     bytes that read give a job
--     ReadRefuses   reading refuses by 1 to 4, 6 and 13 only
--     Booked        13 comes exactly where none of the places is left, with the offset of the booked byte
pub mod Turns
pub mod Encoding
pub mod Heads
pub mod Spans
pub mod Behind
pub mod Records
pub mod JobWritten
pub mod SetRoundTrip
pub mod GroupByte
pub mod HeadRoundTrip
pub mod Alike
pub mod OldFiles
pub mod JobRoundTrip
pub mod JobBounds
pub mod ReadExact
pub mod ReadRefuses
pub mod Booked
