mod Bits
mod Alone
mod Known
mod KnownTexts
mod Spoilt
mod ScalarNames
mod Itself
pub mod Texts
