-- The loss that the code finds is rule 1's.

-- The steps of the code against specs/Loss.antt.
pub mod LossSteps
-- The loss of specs/Loss.antt is rule 1's.
pub mod LossLaws
-- The code's removals and loss are rule 1 with reasons.
pub mod ArcLaws
-- What keeps a variable without effect on another.
pub mod CalmLaws
-- A variable without effect on another, on words.
pub mod QuietLaws
