pub mod LevelLaws
mod LevelTurns
mod ListLaws
pub mod LoopLaws
pub mod OrderLaws
pub mod PairLaws
mod WalkSteps
mod WindowLaws
pub mod WorkedDesigns
