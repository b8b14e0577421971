-- The groups that the arrays come to are those of the problem.

-- The steps of the loops that merge labels and count them.
pub mod MergeLaws
-- Labels in 32 places against the n labels of a problem, and the groups that they come to.
pub mod LabelLaws
