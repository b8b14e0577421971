-- The masks of a hidden variable's rows and of its domain.
pub mod MaskLaws
-- The arrays when a variable is joined with three others.
pub mod Sides
-- What the arrays state after one more three-way constraint.
pub mod Steps
-- The arrays with all of them state the ordinary problem.
pub mod Ordinary
