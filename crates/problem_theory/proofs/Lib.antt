-- No more pairs pass a test than n variables have.
pub mod PairCount
-- What the constraints of a problem are as numbers.
pub mod Listing
-- The file of a problem is accepted and states a problem whose game is the same.
pub mod FileLaws
-- A file without three-way constraints is the file of the problem that it states.
pub mod FileBack
