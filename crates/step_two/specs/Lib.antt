pub mod Inner
pub mod StepTwo
