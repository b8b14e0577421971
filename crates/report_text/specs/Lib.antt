-- What the judging program prints.

-- Document 01: "n, m, the set used, the verdict, the number and side (`shift` or `day`) of the next choice, and its options ascending.
-- A refused file prints one line, `refused 2 at 5`: number and place."
pub mod Text
