-- What the rules of stepping mean.
--     Entries    the entries of a state that are steps
--     Ahead      the steps that are still to come, from any state
--     Exact      when a look says done, when a commit is carried out, and when it is refused by 15: for every state
--     InTurn     WISH 7, the proof: the commits in turn are the steps to come
--     Planned    .. which are those of the plan, from a made state; a state is refused as planning is
pub mod Entries
pub mod Ahead
pub mod Exact
pub mod InTurn
pub mod Planned
