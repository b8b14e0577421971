-- What the judging program prints of the bytes of a file.

-- "The judging program uses the file's `RS`, else USUAL"; "That is n, m, the set used, the verdict, the number and side of the next choice, and its
-- options ascending. A refused file prints one line".
pub mod Reporting
