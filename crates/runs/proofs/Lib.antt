mod Counting
mod Bounding
