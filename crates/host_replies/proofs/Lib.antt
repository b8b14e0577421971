-- Laws of the replies.

-- Each reply by its fields, as the code makes them of an answer.
pub mod ReplyLaws
