-- The thresholds as the code finds them: what the contracts cite. The sets and the thresholds are defined in dual_problem's Problem. Assumes
-- nothing.
pub mod Extremes
