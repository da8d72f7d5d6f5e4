-- What the rules of one drive mean.
--     CheckExact  the check ends exactly where every step keeps the rules, and breaks at the first that does not
--     Moves       three lists as one list of moves
--     Balance     held at the start plus loads equals drops plus held at the end
--     Holdings    plans by what they hold
--     Fewest      THE OPTIMUM: the load count of any good choice of victims is the least
--     Best        the furthest next use is a good choice, and the load count is the same UNDER EITHER TIE RULE
--     LeastUse    the next use is the least later step that wants the curve
--     OurPlan     the victim is a maximum, exactly the excess is dropped, and all that is not wanted where the test is too large
--     Walk        a walk over a set from its lowest element on
--     Staying     the victims by those that go first, and by those that stay
--     Groups      the candidates in groups by their next use
--     Width       our plan does not depend on a bound on curves above the job's
--     Turns       one turn of a loop
pub mod CheckExact
pub mod Moves
pub mod Balance
pub mod Holdings
pub mod Fewest
pub mod Best
pub mod LeastUse
pub mod OurPlan
pub mod Walk
pub mod Staying
pub mod Groups
pub mod Width
pub mod Turns
