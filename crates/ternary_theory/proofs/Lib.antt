-- Theorems of three-way constraints (document 02, card 7).
-- "Verdict and marks of the original choices equal those of the game with three-way tables, defined directly": `expanded_verdict`, `expanded_winning`
-- (Expansion).
-- Without three-way constraints the game is that of the binary ones: `ternary_none`, `ternary_none_winning` (NoTernary).

-- What the expanded problem is, part by part.
pub mod Parts
-- The expanded problem has the verdict and the marks of the game with three-way constraints.
pub mod Expansion
-- Without three-way constraints the game is that of the binary ones.
pub mod NoTernary
-- Small problems computed, and wrong readings.
pub mod Samples
