-- Theorems of the groups of a problem (document 02, card 4).
-- "Two choices hang together if a chain of tables joins them": `group_chain`, `chain_group` (GroupLaws).
-- "The job is won exactly if each group is": `groups_verdict` (GroupVerdict).
-- The problem of a group is of one group: `group_one` (OneGroup).

-- Two variables have the same label exactly if a chain joins them.
pub mod Labels
-- "Two choices hang together if a chain of tables joins them": then they have the same group; each group has a variable.
pub mod GroupLaws
-- Old and new numbers of the variables of a group.
pub mod Renumbered
-- A problem is won exactly if the game inside each group is, the other variables left out.
pub mod Apart
-- "The job is won exactly if each group is": a problem's verdict from those of its groups' problems.
pub mod GroupVerdict
-- The problem of a group is of one group; problems in which the same variables are joined have as many groups.
pub mod OneGroup
-- The groups of samples, computed.
pub mod Samples
