-- What the writer's tests say, and what writing tells and leaves.
pub mod Writable
