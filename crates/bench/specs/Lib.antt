-- What the bench functions reply.

-- A call's reply as one number.
pub mod Number
