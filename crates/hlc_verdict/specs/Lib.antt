pub mod Trace
pub mod Verdict
pub mod VerdictLaws
pub mod Verdicts
pub mod Judged
pub mod JudgedLaws
