-- Laws of the entries for a C host.

-- A list written place by place.
pub mod Places
-- A position's numbers, computed.
pub mod Samples
-- What the header says of an accepted file: numbers are tested whole, and the room held suffices.
pub mod Replied
-- The writer's tests of a rule set that no byte holds.
pub mod WideSet
-- What is told of a text in a caller's buffer.
pub mod TextLaws
