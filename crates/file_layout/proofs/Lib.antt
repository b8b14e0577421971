-- Laws of a problem's numbers: counts, pairs and rows, three variables and their triples.
pub mod NumberLaws
-- Laws of marks, of a record's beginning, of where variables, constraints and the records behind them stand.
pub mod LayoutLaws
-- What is read of the front of a file.
pub mod FrontLaws
