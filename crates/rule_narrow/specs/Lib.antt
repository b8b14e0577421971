-- Rules 4 and 5 over the solver's arrays and words.

-- What each function replies, first in terms of the arrays, then of any problem that they state.
pub mod Narrow
-- Rule 4 with names.
pub mod Names
