-- "`QP`: one byte n .. `EN`, and nothing behind it": the bytes of a problem's numbers.
pub mod Bytes
