-- A part of the caller's file.
pub mod Part
-- Document 01: "a look-up of a pair shows the 32 row bytes as a part of the caller's own file; a pair without a table is free and the
-- look-up says none."
pub mod Lookup
-- Document 02, card 7: "a look-up by place, from 0, shows a record's body or says none".
pub mod Ternary
