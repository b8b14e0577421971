-- What the program reads its argument by.

-- The number that an argument spells in decimal.
pub mod Decimal
