-- The variables of a group as the code gathers them, and an array filled place by place.
pub mod MembersLaws
-- The arrays that are selected state the group's problem.
pub mod SelectedLaws
