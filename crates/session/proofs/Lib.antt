-- Laws of the session's calls.

-- Plays, take-backs, locks and unlocks: what their tests say, and the same over a file's domains and a problem's.
pub mod PlayLaws
-- Open values over arrays, and in the problem that these state.
pub mod OpenLaws
-- What a file's verdict makes of a call.
pub mod FileLaws
-- Calls one after another: the position shows what stands, and the replies are those of the plain list.
pub mod HistoryLaws
-- Calls on one small problem, computed.
pub mod Samples
