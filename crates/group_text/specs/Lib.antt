-- What the program `groups` prints.

-- "List the groups".
pub mod Text
