-- The writer of problem files (document 01, "The job file"): its tests, and what writing tells and leaves.

-- "It refuses by number alone, in the order 3, 13 (a list of another length), 8, 11 (a day bit at n or above), 4 to 7 record by record, 12."
-- The records of three-way constraints are tested behind 7: 27 and 26, record by record.
pub mod Tests
-- "It replies the length written; bytes of the buffer behind it keep their old contents."
pub mod Writing
