mod NamesLaws
mod FirstLaws
mod SoundCells
