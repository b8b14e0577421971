-- A part of a file by its places.
pub mod PartLaws
-- The look-up finds a constraint's rows exactly where the file has a constraint of the pair.
pub mod Lookup
-- What the look-up shows of an accepted file: the numbers of each of its constraints, in order.
pub mod Shown
-- The look-up by place finds every three-way constraint, and shows all bodies of an accepted file.
pub mod TernaryLaws
