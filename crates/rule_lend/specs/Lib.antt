-- A list of n masks that a call is lent.

-- "Then 8, 23, 13, then 20 to 22, then 11, 10, 12": what is tested of a lent list, a variable and a value; the words of a turn.
pub mod Lend
