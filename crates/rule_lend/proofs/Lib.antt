-- Laws of a lent list.

-- Lists copied, and the tests over the problem's domains and over the file's.
pub mod LendLaws
