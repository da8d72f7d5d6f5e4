-- Method 3 of document 01's "Orders", and what the other methods share with it.
--     Tests      the wants of a test, common curves, the tests in list order, and a list to which they are written
--     Packages   the order of method 3
--     ContractWords  words that only contracts of private functions cite
pub mod Tests
pub mod Packages
pub mod ContractWords
