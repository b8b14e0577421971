-- Positions as records: how they hold the plays that stand, and which are misfits.

-- Document 01, "A position is the number of plays and 32 places"; document 02, card 6, "The position gains a lock depth"; refusal 23.
pub mod Position
