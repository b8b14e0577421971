-- Laws of a problem's text.

-- What is coded of a variable, for the problem that the arrays state.
pub mod CodedLaws
-- The clauses that the code goes through are those of the problem's formula.
pub mod ClauseLaws
-- The lines of the prefix that the code forms are those of the problem's formula.
pub mod PrefixText
-- What the code forms over the arrays is what the definition says of the problem that they state.
pub mod ModelLaws
-- The lines of the prefix put one behind another.
pub mod LineLaws
-- The first line, and how many booleans it says.
pub mod TextLaws
-- The lines behind the first put one behind another.
pub mod BodyLaws
-- The whole text: measured, and put at the front of a buffer.
pub mod WholeText
