mod Quarters
mod Limits
mod Turns
mod Sums
mod Quadrants
mod Scaled
mod Stretches
mod Blocks
