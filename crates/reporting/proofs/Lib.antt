pub mod FigureLines
pub mod TurnLaws
pub mod Measured
pub mod NoFurther
pub mod Answers
pub mod Cuts
pub mod Promises
