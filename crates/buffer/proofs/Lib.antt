-- Runs of stores, and lists that stand one behind another.
pub mod StoredLaws
-- Lists of one width, joined from the numbers that pass a test.
pub mod ChosenLaws
-- Texts put one behind another.
pub mod PutLaws
-- Numbers in decimal: the last digit behind those of the tenth, and how many there are.
pub mod DecimalLaws
