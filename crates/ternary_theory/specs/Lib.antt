-- The problem that three-way constraints are turned into, by the hidden variable encoding.
pub mod Expanded
