-- A problem back to a file.

-- "The writer is handed numbers and no file": the numbers of a problem, and the file that the writer makes of them.
pub mod Numbers
