-- The entries of card 4.

-- What they tell and leave of a file, a group and a buffer.
pub mod Told
-- Whether a file is won.
pub mod Won
