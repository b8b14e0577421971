-- The arrays of one group's problem.

-- The variables of a group.
pub mod Members
-- "write each as a job .. with its choices renumbered in order".
pub mod Selected
