-- Which revisions of rule 1's order may be left out; the removals of the code are rule 1's.

-- One revision: where it leaves all as it is, and what keeps it so.
pub mod Revising
-- Loops over the members of a mask.
pub mod Loops
-- A variable that looks at some neighbours only, a pass of such looks, and passes until no variable waits.
pub mod Waiting
-- The steps of the code against specs/Passes.antt.
pub mod StepLaws
-- What survives a revision, as whole masks.
pub mod Support
-- On words that hold a list and its reasons, the removals leave words that hold rule 1's.
pub mod Sheets
-- The domains that a pass leaves as they are.
pub mod TouchLaws
