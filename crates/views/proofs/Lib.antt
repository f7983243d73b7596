pub mod RowLocation
pub mod StepBackLoop
pub mod Shown
