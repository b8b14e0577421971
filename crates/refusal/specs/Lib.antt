-- Refusals: their reasons, how tests are chained, and what a call tells.

-- Document 01: "1 Short" to "23 Misfit"; card 6 of document 02: "24 Locked", "25 Depth".
pub mod Reason
-- Document 01: "the earliest record decides; within it Short for the mark, Mark, Short for the body, then 3, 8, 4, 5, 6, 7".
pub mod Chain
-- Document 01: "When an answer is an enum, a definition gives this paper's number and values for each of its cases."
pub mod Told
-- Document 01: "A refused call leaves position, list, room and buffer with their old contents".
pub mod Replied
