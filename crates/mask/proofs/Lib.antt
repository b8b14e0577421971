-- Tests as types: what a Bool that holds gives, and what shows it.
pub mod Logic
-- Laws of tests over a range.
pub mod Range
-- Laws of `count`: the places of the numbers that pass.
pub mod Places
-- Laws of `bit` under every operation.
pub mod Bits
-- Laws of masks: made of a test, empty, taken apart.
pub mod Masks
-- Laws of the lowest member and the rest, for loops over the members of a mask.
pub mod Members
-- Laws of chains over the members of a mask.
pub mod Chains
-- Laws of chains over a range.
pub mod Below
-- Laws of searches for the first that passes.
pub mod Found
-- A bound of the words of a list.
pub mod Words
