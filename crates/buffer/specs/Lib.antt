-- Bytes put into a buffer.

-- Bytes stored from a place on, and lists one behind another.
pub mod Stored
-- Numbers in decimal.
pub mod Decimal
-- A text that was put.
pub mod Put
-- Bytes that a buffer may be too short for.
pub mod Fitting
