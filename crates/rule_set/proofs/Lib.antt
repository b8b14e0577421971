-- What the constructor's reply says of a number, and the named sets.
pub mod RuleSetLaws
