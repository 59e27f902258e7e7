pub mod BitLaws
pub mod FirstLaws
mod PlaceLaws
mod SplitLaws
mod NameLaws
mod SpelledLaws
mod IndexLaws
mod OddLaws
