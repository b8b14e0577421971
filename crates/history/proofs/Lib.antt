-- Theorems on call histories.

-- Demand 3.
pub mod Histories
-- Calls in bytes.
pub mod ByteLaws
-- Demand 3 over the panel's session.
pub mod Sessions
-- Marks, open values and verdicts do not depend on a depth that fits.
pub mod AnyDepth
-- Bytes of calls, computed.
pub mod Samples
