-- What a record's test that is fine says, and what makes it fine.
pub mod RecordLaws
-- The tests of records in the front of a file, and which front decides.
pub mod FrontLaws
-- What a test says that hands out what it has tested.
pub mod TestedLaws
