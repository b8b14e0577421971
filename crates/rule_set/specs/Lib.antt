-- Rule sets: the named ones, and which numbers are one.
pub mod RuleSet
