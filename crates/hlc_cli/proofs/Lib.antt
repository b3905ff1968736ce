mod Mistakes
mod Notes
