-- Words that contracts share, of lists and of choices.
--     Lent    what a list that is lent holds after a call that writes its first entries
--     Choice  the first of several with the best key
pub mod Lent
pub mod Choice
