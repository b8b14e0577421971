-- The check of one value, a variable at a time.
pub mod StepLaws
-- The steps against rules 2 and 3 of the game.
pub mod RuleLaws
