pub mod Spacing
pub mod Collecting
pub mod Blanks
pub mod Telling
pub mod Courses
