-- The constraints of an accepted file: pairs in range and ascending, rows within the domains.
pub mod ConstraintLaws
-- What the look-up shows of two variables is what their constraint says; of an accepted file.
pub mod PairLaws
-- The three-way constraints of an accepted file.
pub mod TernaryLaws
