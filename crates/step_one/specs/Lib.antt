pub mod StepOne
pub mod Inner
