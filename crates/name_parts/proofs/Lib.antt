mod PartLaws
mod OwnLaws
