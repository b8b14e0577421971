-- Which variables hang together (document 02, card 4).

-- "Two choices hang together if a chain of tables joins them. List the groups, numbered from 0 by their smallest choice".
pub mod Groups
-- "and write each as a job file with its choices renumbered in order and the same `RS`".
pub mod GroupProblem
