-- Which lists of bytes are files, and what is shown of one.

-- "`QP`: one byte n .. `EN`, and nothing behind it": the bytes of numbers that the writer takes.
pub mod Writes
-- "what reading and look-up show".
pub mod Shown
