-- The judge of a formula's text: its laws.

-- Formulas whose booleans are judged in ascending order.
pub mod JudgeLaws
-- One call: its two values, and its reply.
pub mod RestLaws
-- A walk along the clauses of one last boolean.
pub mod WalkLaws
-- A clause of the text, literal by literal.
pub mod ClauseLaws
-- The formula of a text from its index.
pub mod TextLaws
