mod Cells
mod Members
mod Numerals
mod Reuses
mod Shapes
