pub mod View
pub mod StepBack
