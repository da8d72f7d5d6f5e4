-- The texts of the sheet, the audit and the table of drive sizes.
--     Decimal  the numbers of the sheet are in decimal
--     Digits   the digits are those that the library prints, and how many there are
--     Curves   the curves of a set, from the lowest on
--     Writing  texts that are put one behind the other
--     Lines    the lines of the sheet, grouped as they are put
--     Fitted   a text that was measured, and is then refused or written
--     Longest  the longest sheet
--     WithoutTests the sheet of a job without tests
--     OldFiles the sheet, the audit and the table of an old job file, with method 2
--     Auditing an audit, stage by stage
--     Reporting the sheet, stage by stage
--     Fewest   what an audit says: the loads of a plan, and the fewest
--     Inputs   what can matter of an input
--     AuditLongest which refusals an audit prints, and the longest
--     TableLines the lines of the table, grouped as they are put, and how long they are
--     Sizing   the table, stage by stage
--     SizeTable what the table says: the count of a word, and where the lines stop
--     TableLongest the longest table
pub mod Decimal
pub mod Digits
pub mod Curves
pub mod Writing
pub mod Lines
pub mod Fitted
pub mod Fewest
pub mod Longest
pub mod WithoutTests
pub mod OldFiles
pub mod Auditing
pub mod Reporting
pub mod Inputs
pub mod AuditLongest
pub mod TableLines
pub mod Sizing
pub mod SizeTable
pub mod TableLongest
