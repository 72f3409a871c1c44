-- Laws of a count: of its slot and head, and of a step.
pub mod HeadLaws
pub mod StepLaws
