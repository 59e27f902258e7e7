mod Known
mod Left
mod Named
mod Pieces
