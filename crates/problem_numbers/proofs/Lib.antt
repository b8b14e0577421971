-- Two variables are tied either way round.
pub mod TieLaws
