-- The number that digits spell, digit by digit.
pub mod NumberLaws
