-- The problem file (document 01, "The job file"): what is where, and which numbers fit.

-- Tests on numbers that files and the writer share: counts, pairs, rows, triples.
pub mod Numbers
-- "Records stand one after another, each behind a two-byte mark in ASCII. Numbers of two bytes have the low byte first."
pub mod Layout
