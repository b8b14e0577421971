-- The judge of a formula's text.

-- Which texts it judges by equation with `judge_formula`.
pub mod Judgeable
-- What a call knows and replies.
pub mod Rest
