-- Call histories.

-- Calls as bytes, and what demand 3 asks of the position reached, of its replies and of the next call.
pub mod Replay
-- The panel's session after calls.
pub mod Sessions
