pub mod OneOutcome
mod WorkedLinks
