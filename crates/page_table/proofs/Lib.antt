pub mod FirstLemmas
pub mod Gaps
pub mod Within
pub mod Runs
pub mod Held
pub mod Lowered
pub mod Hinted
