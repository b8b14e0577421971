-- What the entries for a C host reply.

-- What is told, as the fields of a reply.
pub mod Replies
