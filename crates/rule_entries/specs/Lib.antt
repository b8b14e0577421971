-- Rules 1 to 5 called alone, on a lent list of a mask for each variable of the ordinary problem.

-- "Called so, rules 1 and 2 rewrite the list as stated below and rules 3 to 5 only reply."
pub mod Alone
-- The same over the arrays of a problem, as the functions below the entries state it.
pub mod Inner
