-- Rules 2, 1 and 3 one after another.

-- Two rulings after another, and a ruling where a test says so.
pub mod ChainLaws
-- Rule 2 for one play, and for the plays from one on.
pub mod CheckLaws
-- What rule 2 narrows, and what rule 1 looks at after it.
pub mod NarrowLaws
-- Rules 1 and 3.
pub mod ArcAheadLaws
-- Rule 3 after rule 1.
pub mod AfterArc
-- The rules of a turn by the rule set.
pub mod TurnLaws
