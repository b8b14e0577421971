-- The entries of card 1.

-- What they tell and leave of a file and a buffer.
pub mod Told
