-- What the rules of plan bytes mean, and the laws that the code's proofs cite.
--     Reading        a group, a set and a step, read: case by case
--     Steps          one turn of a loop over the steps
--     ReadPlan       what reading a plan answers and leaves
--     Fetching       a step fetched by its position
--     Writing        writing a plan
--     PlanRoundTrip  writing and reading undo each other
--     PlanLength     how long plan bytes are
--     PlanBounds     how large their figures are, and that bytes behind the longest plan change nothing
--     StepParts      the parts that are fetched are the steps as they are written
pub mod Reading
pub mod Steps
pub mod ReadPlan
pub mod Fetching
pub mod Writing
pub mod PlanRoundTrip
pub mod PlanLength
pub mod PlanBounds
pub mod StepParts
