-- Document 01, "Grid definitions": kernel values and the problem, with demand 3's bound. Read Kernel and Problem; Size and FileProblem are
-- what the code's contracts cite. Assumes nothing.
pub mod Kernel
pub mod Problem
pub mod Size
pub mod FileProblem
pub mod Given
