pub mod Outcomes
pub mod FillLoop
pub mod Demands
pub mod ReadCases
pub mod ReadLaws
pub mod Bench
