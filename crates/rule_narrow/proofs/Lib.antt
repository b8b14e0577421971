-- Laws of rules 4 and 5 over the arrays.

-- Rule 4.
pub mod PureLaws
-- Rule 5.
pub mod InterchangeLaws
-- The narrowing of rule 4.
pub mod PurgeLaws
-- Its names.
pub mod NameLaws
-- Both rules on the words of a turn.
pub mod NextLaws
