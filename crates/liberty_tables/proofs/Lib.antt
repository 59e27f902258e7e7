mod NumberLaws
mod PlainLaws
mod TableLaws
