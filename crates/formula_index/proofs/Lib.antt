-- A number's digits, one after another.
pub mod NumberLaws
-- A line's literals, one after another.
pub mod LineLaws
-- The clauses' places and chains, one clause after another.
pub mod ChainLaws
-- The sides of booleans, one line after another.
pub mod MarkedLaws
