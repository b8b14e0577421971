-- The booleans of a variable, over the decoded arrays, and the text of literals.

-- What is coded of a variable.
pub mod Coding
-- Literals as text, each with a blank.
pub mod Words
