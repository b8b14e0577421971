-- How many bits d values need.
pub mod BitLaws
-- Lists under a test, and those that are joined of them.
pub mod OnlyLaws
