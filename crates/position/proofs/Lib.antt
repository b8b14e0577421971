-- Laws of positions.

-- What a position that fits is: it shows its plays and its depth, and the plays are legal; and back.
pub mod Fitting
-- A play added to the plays shown, and the last taken back.
pub mod Shown
-- The position's list, and the words that hold it.
pub mod Narrowing
-- Small positions that fit and that do not, computed.
pub mod Samples
